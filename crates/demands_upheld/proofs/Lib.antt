-- The proofs of what `specs/` says.
pub mod Ending
pub mod Refusing
pub mod Answering
pub mod Seen
pub mod Removing
pub mod Programs
