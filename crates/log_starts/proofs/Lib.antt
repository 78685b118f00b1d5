-- The laws that the proofs of the functions cite.
pub mod Markers
pub mod Judging
pub mod Starting
pub mod Passing
pub mod Alone
