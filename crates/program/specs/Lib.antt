-- What the code's programs mean, by the model's definitions, and what the functions promise.
pub mod Instructions
pub mod Meaning
pub mod Post
