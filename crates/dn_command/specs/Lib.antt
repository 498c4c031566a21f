pub mod Commands
pub mod Options
pub mod Requests
pub mod State
