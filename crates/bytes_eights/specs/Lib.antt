-- What is found of bytes, side by side and eight at a time.
pub mod Alike
pub mod Words
