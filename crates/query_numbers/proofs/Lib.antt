-- The laws that the proofs of the functions cite, and those for callers.
pub mod Cuts
pub mod Queries
pub mod Signs
pub mod Back
