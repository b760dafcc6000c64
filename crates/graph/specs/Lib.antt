-- What a search promises, by numbers and lists.
pub mod Rules
pub mod Walks
pub mod Search
pub mod Back
