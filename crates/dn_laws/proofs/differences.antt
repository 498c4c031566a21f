pub mod SomeVerdict
pub mod ExampleLaws
