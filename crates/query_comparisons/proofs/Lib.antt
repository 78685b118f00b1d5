-- The laws that the proofs of the functions cite.
pub mod Asked
pub mod Comparing
pub mod Back
