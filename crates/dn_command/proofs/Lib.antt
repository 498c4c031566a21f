pub mod OptionLaws
pub mod RequestLaws
