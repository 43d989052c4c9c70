pub mod Bounds
pub mod Theorems
