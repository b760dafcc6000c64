-- Laws of sets of bits: by halves, for the jumps and steps of the search, for clauses, by bits and as lists of spots.
pub mod Halves
pub mod Jumps
pub mod Steps
pub mod Unions
pub mod Bits
pub mod Spots
pub mod Theorems
