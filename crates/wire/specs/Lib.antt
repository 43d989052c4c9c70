-- Document 01 in its own order: the numbers, the messages, the refusal numbers, the readers and the writers.
pub mod Numbers
pub mod Fields
pub mod Messages
pub mod Refusals
pub mod Votes
pub mod Readers
pub mod Writers
