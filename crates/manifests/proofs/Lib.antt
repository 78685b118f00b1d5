-- Laws of manifests kept and dropped, of the room, and of directories; the proofs of the functions cite them.
pub mod Excluding
pub mod Noting
pub mod Listing
pub mod Slashes
pub mod Answering
pub mod Alone
