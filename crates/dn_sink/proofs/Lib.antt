pub mod PutLaws
pub mod MatchLaws
pub mod RowLaws
