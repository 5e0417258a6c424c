pub mod Holders
pub mod Counts
