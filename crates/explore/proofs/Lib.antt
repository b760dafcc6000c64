-- Lemmas on exploration.
pub mod MoveNumbers
pub mod Finding
pub mod Edges
pub mod Turns
