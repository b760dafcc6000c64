-- Laws of the tools.
pub mod Fields
pub mod Mixing
pub mod RecordLaws
pub mod Probing
