pub mod SumLaws
pub mod QuorumLaws
pub mod HistoryLaws
pub mod Safety
pub mod Moves
pub mod Following
pub mod Limits
