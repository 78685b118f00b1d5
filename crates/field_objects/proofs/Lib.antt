-- Laws of slots and members at positions of a text; the proofs of the functions cite them.
pub mod Slots
pub mod Places
pub mod Lefts
pub mod Members
pub mod Passing
pub mod Scanning
pub mod Alone
pub mod Meeting
pub mod Going
pub mod Whole
