pub mod Lines
pub mod Laid
pub mod Saying
pub mod Checking
pub mod Summarized
mod ExamplesSums
