pub mod CanonGraphs
pub mod CanonReadings
pub mod PartCanons
pub mod Lines
pub mod Blocks
pub mod ListedArcs
pub mod Writes
pub mod Runs
