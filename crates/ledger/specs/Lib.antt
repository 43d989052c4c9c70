-- Document 01 in its own order: the ledger's state, then what each call on the ledger answers and leaves.
pub mod States
pub mod Answers
pub mod Calls
