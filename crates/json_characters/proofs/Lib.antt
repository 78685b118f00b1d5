-- Laws of escapes, of UTF-8 and of runs of plain bytes; the proofs of the functions cite them.
pub mod Taking
pub mod Units
pub mod EscapesAlone
pub mod Inside
pub mod Runs
pub mod Alone
