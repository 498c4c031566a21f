pub mod CarryLaws
pub mod Givings
pub mod Spreads
