pub mod Onward
pub mod Places
pub mod Stretches
pub mod Told
