-- Laws of the reading of a state manifest; the proofs of the functions cite them.
pub mod Bounded
pub mod Gathering
pub mod Tabling
pub mod Stating
