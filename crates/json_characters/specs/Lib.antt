-- What the scanners of characters promise, in the rules' terms.
pub mod Codes
pub mod Runs
