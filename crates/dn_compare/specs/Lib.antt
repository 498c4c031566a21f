pub mod Observed
pub mod FirstDifference
pub mod State
