pub mod Bases
pub mod Checking
pub mod Index
pub mod Indexed
pub mod LiveSerials
pub mod Numbers
pub mod Reading
