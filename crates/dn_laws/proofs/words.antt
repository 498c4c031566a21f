pub mod ReadLaws
pub mod LineLaws
