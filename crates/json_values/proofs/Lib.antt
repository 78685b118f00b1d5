pub mod Names
pub mod Numbers
pub mod Turns
pub mod Wholes
pub mod Examples
pub mod Alone
