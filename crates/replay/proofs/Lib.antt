-- Lemmas on runs and the words that tell them.
pub mod HeldState
pub mod StateWords
pub mod RunLaws
