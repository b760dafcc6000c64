-- Lemmas on guards over explored states.
pub mod MaskLaws
pub mod Passing
pub mod HitWords
pub mod Steps
pub mod GuardedWalks
pub mod Along
pub mod Placed
