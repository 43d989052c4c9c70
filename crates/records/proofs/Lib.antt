pub mod Balances
pub mod Facts
