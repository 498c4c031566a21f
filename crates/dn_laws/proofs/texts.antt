pub mod RangeTexts
pub mod ChunkLaws
pub mod RangeLaws
pub mod ExampleLaws
pub mod KeyLaws
pub mod ExistLaws
pub mod ContentLaws
pub mod ArcOrderLaws
