-- Laws of words, conditions and queries; the proofs of the functions cite them.
pub mod Numerals
pub mod Saying
pub mod Naming
pub mod Making
pub mod Placing
pub mod Numbered
pub mod Fusing
pub mod Columns
pub mod Gathering
