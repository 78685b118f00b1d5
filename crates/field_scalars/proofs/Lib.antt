-- Laws of fields by their slots, and of strings in their places; the proofs of the functions cite them.
pub mod Single
pub mod Optionals
pub mod Strings
pub mod Begins
pub mod Sizes
pub mod Paths
pub mod Counted
pub mod Stated
pub mod Alone
