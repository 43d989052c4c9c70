-- The round trips, and what each contract determines; the rest is what their proofs cite.
pub mod Theorems
pub mod Determined
pub mod Answers
pub mod Body
pub mod Order
pub mod Funding
pub mod Certificate
pub mod VoteLaws
pub mod Voters
