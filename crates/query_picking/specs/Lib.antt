-- What the picking of rows leaves, in the rules' terms.
pub mod Picked
