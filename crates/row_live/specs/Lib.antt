-- What a row of the live table carries while a log is read, and what the functions over the table promise.
pub mod Live
