pub mod PairLaws
pub mod TableLaws
pub mod GrownLaws
pub mod EntryLaws
pub mod NeedLaws
