-- What the promises of the crate speak of.
pub mod Files
pub mod Answers
