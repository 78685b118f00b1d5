-- What the functions over state manifests promise, in the rules' terms.
pub mod Ranges
pub mod Tables
pub mod States
