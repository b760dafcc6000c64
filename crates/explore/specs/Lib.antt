-- What exploration promises, by the model's definitions.
pub mod Found
pub mod Grown
pub mod Post
