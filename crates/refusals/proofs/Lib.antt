-- Laws of the refusals.
pub mod Alone
