-- Document 01 in its own order: balances, records and states, then what each call on a machine answers and leaves.
pub mod Balances
pub mod Records
pub mod States
pub mod Answers
pub mod Calls
