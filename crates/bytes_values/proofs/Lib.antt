-- The laws that the proofs of the functions cite, and those for callers.
pub mod Words
pub mod Wholes
pub mod Back
