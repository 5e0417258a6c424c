pub mod Lookups
pub mod OneWord
pub mod Moments
pub mod FreeRecords
