-- Laws of what C gets; the proofs of the functions cite them.
pub mod Showing
pub mod Listing
pub mod Counting
pub mod Standing
pub mod Alone
