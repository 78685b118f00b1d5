-- What the functions over names promise, in the rules' terms.
pub mod Spelled
pub mod Kinds
pub mod Known
