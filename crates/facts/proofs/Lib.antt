-- The shared laws.
pub mod Lists
pub mod Parts
pub mod Moves
pub mod Rows
pub mod Tables
pub mod Examples
pub mod Kept
pub mod Shifts
