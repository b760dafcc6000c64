-- Lemmas on fields written one after another.
pub mod Written
