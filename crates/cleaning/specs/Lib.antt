-- What the functions of the cleaner promise, in the rules' terms.
pub mod Naming
pub mod Ruled
pub mod Answers
