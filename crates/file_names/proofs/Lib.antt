-- The laws that the proofs of the functions cite.
pub mod Twenty
pub mod Endings
pub mod Low
