-- The customer's demands, of the entries. `Upheld` lists them; the modules before it say them.
pub mod Seen
pub mod Refusing
pub mod Answering
pub mod Removing
pub mod Programs
pub mod Upheld
