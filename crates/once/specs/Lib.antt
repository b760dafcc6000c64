-- What it means that a state is marked.
pub mod Once
