-- The laws that the functions of this crate cite.
pub mod Leading
pub mod Walking
pub mod Reaching
pub mod Beginning
