-- What the functions over members promise, in the rules' terms.
pub mod Places
pub mod Slots
pub mod Standing
pub mod Namings
pub mod Lookup
pub mod Texts
