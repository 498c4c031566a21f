pub mod MeantRows
pub mod ShowLaws
