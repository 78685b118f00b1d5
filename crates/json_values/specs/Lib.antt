pub mod Follows
pub mod Numbered
pub mod Whole
