-- What the shared laws speak of. Nothing here is part of a promise to a customer.
pub mod Lists
pub mod Parts
pub mod Rows
pub mod Moves
pub mod Kept
