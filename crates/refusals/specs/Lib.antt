-- Refusals in words, those of 01 and those of a line that is no call.
pub mod Refusals
