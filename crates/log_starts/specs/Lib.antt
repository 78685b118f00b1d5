-- The crate's answers in the rules' terms.
pub mod Marks
pub mod Ways
