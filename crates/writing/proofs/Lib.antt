pub mod Written
pub mod Turn
