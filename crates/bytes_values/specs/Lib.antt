-- The crate's answers in the rules' terms.
pub mod Answers
pub mod Readings
