-- The laws that the functions of this crate cite.
pub mod Baring
pub mod Halving
pub mod Becoming
pub mod Alone
