-- The laws that the proofs of the functions cite.
pub mod Digits
pub mod Spellings
pub mod Writing
pub mod Halving
pub mod Alone
