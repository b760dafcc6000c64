-- What it means that a told run is made again.
pub mod Runs
pub mod Post
