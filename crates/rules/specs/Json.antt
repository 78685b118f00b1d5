-- JSON is RFC 8259: its grammar as readers of texts, then what the paper asks of members and values.
pub mod Text
pub mod Numbers
pub mod Strings
pub mod Values
pub mod Fields
