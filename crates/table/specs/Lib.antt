-- The examples E1 to E12 of document 01: their messages and states byte by byte, then the table.
pub mod Papers
pub mod States
pub mod Table
