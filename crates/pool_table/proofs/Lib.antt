pub mod Records
pub mod Lookups
pub mod Listing
