-- What the machine's state and the ledger's have in common: the header's first fields, and what a call answers and leaves.
pub mod Headers
pub mod Outcomes
