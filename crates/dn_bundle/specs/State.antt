pub mod Shapes
pub mod Listings
pub mod Gaps
pub mod Spots
