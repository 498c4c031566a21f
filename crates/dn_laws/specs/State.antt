pub mod Contents
pub mod BundleExamples
pub mod TextExamples
pub mod DifferenceExamples
pub mod RunExamples
pub mod SourceExamples
