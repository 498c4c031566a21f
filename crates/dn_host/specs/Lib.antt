pub mod Streams
pub mod Takings
pub mod Openers
pub mod State
