-- What the functions over lines promise, in the rules' terms.
pub mod Line
pub mod Begun
pub mod Asked
