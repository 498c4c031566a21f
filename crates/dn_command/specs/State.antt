pub mod Parses
pub mod RequestKinds
