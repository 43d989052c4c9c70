pub mod Chain
pub mod FieldLaws
pub mod Held
pub mod Laid
pub mod Ranges
pub mod Reached
pub mod Reading
