pub mod Shows
pub mod Checks
pub mod Verdicts
pub mod FaultLines
pub mod State
