-- The readable form of programs: what a text says, how a program is printed, and what the code promises of both.
pub mod Bytes
pub mod Grammar
pub mod Shows
pub mod Parts
pub mod Fine
pub mod Answers
pub mod Kinds
pub mod Meaning
