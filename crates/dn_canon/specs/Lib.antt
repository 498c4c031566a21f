pub mod CanonInstances
pub mod Prints
pub mod CanonTexts
pub mod State
