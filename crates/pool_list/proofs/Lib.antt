pub mod Saying
pub mod ListedPools
