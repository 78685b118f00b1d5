-- Laws of strings at positions of an array, of features, columns and partition values; the proofs of the functions cite them.
pub mod Elements
pub mod Collecting
pub mod Walking
pub mod Matching
pub mod InStep
pub mod Alone
pub mod Valued
pub mod Placed
pub mod Partitions
pub mod Few
pub mod Arrays
pub mod Stated
pub mod Pairs
pub mod Telling
pub mod Named
