-- The laws that the proofs of the functions cite.
pub mod Padding
pub mod Entries
pub mod Ascent
pub mod Passing
pub mod Opening
pub mod Reading
pub mod Naming
pub mod Answering
pub mod Large
pub mod Titles
pub mod Alone
