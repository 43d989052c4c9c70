-- A day of calls, as an example of the runs that demand 3 speaks of; and runs in which one answer of 01 is left out.
pub mod Example
pub mod Without
