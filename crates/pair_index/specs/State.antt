pub mod Buckets
pub mod Chained
pub mod Indexed
pub mod Positions
pub mod Runs
pub mod Shown
pub mod Sorted
pub mod Tailed
