-- What a refusal says: the paper's number and values for each case.
pub mod Numbered
