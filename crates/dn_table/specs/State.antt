pub mod Tables
pub mod ListedEntries
