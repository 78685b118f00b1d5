-- Laws of two states that are compared; the proofs of the functions cite them.
pub mod Columns
pub mod Values
pub mod Passing
pub mod Listing
pub mod Stated
pub mod Added
pub mod Views
pub mod Tabled
