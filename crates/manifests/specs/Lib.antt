-- What a query says of manifests, in the rules' terms: of one, of all, in the lent room; and where one lies.
pub mod Verdicts
pub mod Walks
pub mod Slashes
pub mod Rooms
