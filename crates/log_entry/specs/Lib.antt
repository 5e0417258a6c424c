pub mod Reading
pub mod Ranges
pub mod Copying
