pub mod LinesLaws
pub mod RowsLaws
pub mod HandsLaws
pub mod ItemsLaws
pub mod InstanceLaws
