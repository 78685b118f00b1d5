-- What a verdict of the gate says, in the rules' terms.
pub mod Judged
