-- Laws of picking.
pub mod Values
pub mod Each
pub mod Fronting
pub mod Among
