-- What the public calls promise.
pub mod Sizes
pub mod Finding
pub mod Listing
pub mod Rows
pub mod Looks
pub mod Says
pub mod Told
pub mod Searching
pub mod Fewest
pub mod Answers
