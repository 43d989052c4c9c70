-- Theorems about the ledger. Meaning has what they speak of, LogLaws and Theorems the laws, Runs what holds from a fresh state on,
-- Taken that machines take the ledger's funding orders, Layouts what every layout has, Determined that contracts leave nothing open.
pub mod Meaning
pub mod LogLaws
pub mod Outcomes
pub mod Keeping
pub mod Theorems
pub mod Runs
pub mod Taken
pub mod Layouts
pub mod Determined
