-- What is proved of the definitions.
pub mod StoreBuffering
pub mod Tools
pub mod OneProgram
pub mod AlsoWaiting
pub mod RunsUnderGuards
pub mod RunLength
pub mod Levels
pub mod Finished
pub mod OneEnd
pub mod Orders
pub mod EnoughFences
pub mod Blocks
pub mod FencesAreGuards
pub mod ByStates
pub mod Clauses
pub mod SomeListWorks
pub mod Theorems
