pub mod GraphEntries
pub mod State
