pub mod Theorems
pub mod Runs
