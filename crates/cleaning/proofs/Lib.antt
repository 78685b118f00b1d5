-- Laws of the cleaner; the proofs of the functions cite them.
pub mod Ageing
pub mod Going
pub mod Weighing
pub mod Deciding
pub mod Ending
pub mod Alone
