pub mod Digits
pub mod Laws
pub mod Parts
pub mod TestLaws
