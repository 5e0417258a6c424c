mod Searched
pub mod Freed
