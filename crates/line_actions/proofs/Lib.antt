pub mod Lines
pub mod Slotted
pub mod Assembled
pub mod Usual
pub mod Sole
