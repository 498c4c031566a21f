pub mod TruthLaws
pub mod PlaceLaws
pub mod VerdictLaws
pub mod FirstLaws
pub mod PeekedLaws
pub mod ArcPartings
pub mod HeldVerdicts
