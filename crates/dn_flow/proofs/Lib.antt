pub mod FitLaws
pub mod ShareLaws
pub mod SpreadLaws
