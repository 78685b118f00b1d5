-- What a condition says of values, in the rules' terms.
pub mod Between
pub mod Judging
