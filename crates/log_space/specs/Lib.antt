pub mod Records
pub mod FreeLogs
pub mod Closed
pub mod Clearing
pub mod Owners
