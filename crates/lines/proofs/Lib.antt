pub mod ServingLaws
pub mod FileLaws
