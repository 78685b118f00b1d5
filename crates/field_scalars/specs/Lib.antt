-- What the functions over fields promise, in the rules' terms.
pub mod Inside
pub mod Optionals
pub mod Texts
pub mod Counts
pub mod Versions
