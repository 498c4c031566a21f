pub mod NumberTexts
pub mod NumberReader
pub mod Lanes
pub mod Marks
pub mod Digits
