pub mod PageLaws
pub mod WordLaws
pub mod LineLaws
pub mod ArrivalLaws
pub mod Patterns
