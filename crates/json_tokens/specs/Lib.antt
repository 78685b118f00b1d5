-- What the scanners of tokens promise, in the rules' terms.
pub mod Answers
