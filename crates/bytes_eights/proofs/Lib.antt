pub mod Words
pub mod Marks
pub mod Digits
pub mod Sides
pub mod Alone
