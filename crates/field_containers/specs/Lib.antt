-- What the functions over arrays and over fields that hold others promise, in the rules' terms.
pub mod Strung
pub mod Valued
pub mod Nested
pub mod Featured
