pub mod KeyLaws
pub mod LinkLaws
pub mod WalkLaws
pub mod AfterLaws
pub mod NodeLaws
