-- Lemmas on rows, states and moves.
pub mod RowLaws
pub mod Did
pub mod PackLaws
pub mod StateLaws
pub mod MoveLaws
pub mod Unpacking
pub mod FirstWord
pub mod StepLaws
pub mod HeldState
pub mod RunsFit
