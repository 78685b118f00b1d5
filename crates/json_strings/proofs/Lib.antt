-- Laws of the bytes that strings stand for; the proofs of the functions cite them.
pub mod Flat
pub mod Widths
pub mod Ahead
pub mod CursorsAlone
pub mod Decoding
pub mod Raw
pub mod Sizes
pub mod Orders
pub mod AsSpelled
pub mod Gathered
pub mod Placing
pub mod Shorter
pub mod Scanning
pub mod SpellingsAlone
