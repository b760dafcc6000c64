-- Lemmas on walks and searches.
pub mod Walked
pub mod Asked
mod Growing
mod Linking
mod Passing
mod Tracing
