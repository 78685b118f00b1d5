-- Laws of the gate.
pub mod Judging
pub mod Alone
