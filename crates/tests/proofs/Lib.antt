-- Lemmas on runs of chosen moves.
pub mod Held
