-- What the entries of reading promise, in the rules' terms.
pub mod Answers
