-- Messages written and shown by hand.
pub mod Drafts
