pub mod ArcLines
pub mod Reading
