-- Lemmas on steps at once and on finished states.
pub mod Calm
pub mod Steps
pub mod Ended
