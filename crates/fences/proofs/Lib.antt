-- Lemmas on the public calls.
pub mod FindingLaws
pub mod Sharing
pub mod AllOutcomes
pub mod RowLaws
pub mod LookLaws
pub mod Listed
pub mod TellLaws
pub mod SearchLaws
pub mod Answered
