-- What settlement machines may do, without a byte: quorums by weight, what a machine did, what is certain, what a state shows.
pub mod Lists
pub mod Quorums
pub mod Histories
pub mod Worlds
pub mod Views
