-- What a line does to a machine or to the ledger, and what is printed for it.
pub mod Calls
pub mod Serving
pub mod Files
