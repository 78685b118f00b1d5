-- What is carried while a log is read, in the rules' terms, and what the functions promise.
pub mod Views
pub mod Answers
