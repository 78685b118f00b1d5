-- Laws of texts at positions and of runs of bytes; the proofs of the functions cite them.
pub mod Places
pub mod Anew
pub mod Runs
pub mod Words
pub mod Alone
pub mod Eights
