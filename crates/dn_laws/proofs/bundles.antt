pub mod SomeDifference
pub mod ExampleLaws
