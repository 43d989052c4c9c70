pub mod Fresh
pub mod Unless
