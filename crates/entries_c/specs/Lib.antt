-- What C gets, in the rules' terms.
pub mod Codes
pub mod Cleans
pub mod Reads
pub mod Shows
pub mod States
