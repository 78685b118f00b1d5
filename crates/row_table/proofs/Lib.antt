-- The laws that the functions of this crate cite.
pub mod Changes
pub mod Moving
pub mod Standing
pub mod Settling
pub mod Alone
