-- What is printed can be read: in full, and back again; and it does not hang on how the input arrives.
pub mod Theorems
pub mod Pieces
