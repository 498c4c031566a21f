pub mod FaultEnds
pub mod ListedRows
