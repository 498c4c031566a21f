pub mod AsBox
pub mod Steps
pub mod Handing
pub mod ReadLaws
pub mod WalkLaws
pub mod CanonLaws
pub mod ItemLaws
pub mod LinesLaws
