pub mod Checking
pub mod Example
pub mod Premises
pub mod Answers
