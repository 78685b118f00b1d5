-- What is promised of strings, in the rules' terms: what a cursor has ahead, what is decoded, how a string is spelled.
pub mod Flat
pub mod Ahead
pub mod Decoded
pub mod Spelling
pub mod Scanned
