-- What is noted of a state that was saved.
pub mod Saving
