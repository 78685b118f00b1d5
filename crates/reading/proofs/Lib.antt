-- Laws of reading; the proofs of the functions cite them.
pub mod Rules
pub mod Rooms
pub mod Picked
pub mod DueRows
pub mod Alone
