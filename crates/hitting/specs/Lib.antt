-- Sets of bits, and what the functions promise of them.
pub mod Masks
pub mod Post
pub mod Spots
pub mod Theorems
