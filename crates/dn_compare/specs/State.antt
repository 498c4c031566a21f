pub mod Peeked
pub mod Partings
