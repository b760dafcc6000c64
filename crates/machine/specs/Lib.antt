-- What the machine's code means, by the model's definitions, and what its functions promise.
pub mod Stores
pub mod Meaning
pub mod Packed
pub mod Post
pub mod Words
