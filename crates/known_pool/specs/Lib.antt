pub mod Searches
pub mod Known
pub mod Indexes
pub mod Serials
pub mod Promises
