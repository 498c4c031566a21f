pub mod Takes
pub mod Failures
pub mod Devices
pub mod HostTexts
pub mod StreamReads
