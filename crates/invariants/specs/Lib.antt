-- What the laws of a machine speak of, the laws, and what each contract determines; the rest is what their proofs cite.
pub mod Meaning
pub mod Theorems
pub mod Determined
pub mod RecordLaws
pub mod Outcomes
pub mod Keeping
pub mod Bounds
pub mod Moving
pub mod Layouts
pub mod Sixteen
