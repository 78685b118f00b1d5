-- Laws of names at positions of a text and among the names of a kind; the proofs of the functions cite them.
pub mod Quoting
pub mod KeysAlone
pub mod Seeking
pub mod Naming
pub mod Quotes
pub mod KindsAlone
