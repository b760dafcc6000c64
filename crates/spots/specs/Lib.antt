-- Lists of spots for fences as the bits of a number.
pub mod Masks
