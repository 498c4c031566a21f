pub mod ExampleLaws
