pub mod Reach
pub mod Tally
