pub mod Sinks
pub mod Puts
pub mod Rows
pub mod State
