-- Messages in words.
pub mod Papers
