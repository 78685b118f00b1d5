-- What the words, the conditions and the query promise, in the rules' terms.
pub mod Words
pub mod Members
pub mod Conditions
pub mod Reading
