pub mod Turns
pub mod MemorySinks
pub mod Matches
pub mod Spaced
