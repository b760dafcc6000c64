-- What the tools promise, by lists and numbers.
pub mod Hash
pub mod Nibbles
pub mod Records
pub mod Table
