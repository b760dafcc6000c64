-- What guards over explored states promise, by the model's definitions.
pub mod Masks
pub mod Rules
