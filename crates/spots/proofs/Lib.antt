-- Lemmas on lists of spots as bits.
pub mod Positions
pub mod Every
pub mod Lists
pub mod Guarded
pub mod Fewest
pub mod Adding
