pub mod ReadLaws
pub mod OutcomeLaws
pub mod CommandLaws
pub mod RunLaws
pub mod BriefLaws
pub mod StatusLaws
