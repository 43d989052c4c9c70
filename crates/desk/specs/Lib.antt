-- How answers cross the C interface, and that their numbers tell them apart.
pub mod Layout
pub mod Theorems
