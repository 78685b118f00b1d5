-- The laws that the functions of this crate cite.
pub mod Lying
pub mod Putting
pub mod Standing
pub mod Doing
pub mod Going
pub mod Nothing
pub mod Tabled
pub mod Fitting
pub mod Zeroing
pub mod Filing
pub mod Within
pub mod Adds
