-- What is answered of one line, in the rules' terms.
pub mod Shown
