-- How a row lies in numbers, and what a table is.
pub mod Table
