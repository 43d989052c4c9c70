-- The answers of a machine and of the ledger in words.
pub mod Answers
