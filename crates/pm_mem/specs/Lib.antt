pub mod Turns
pub mod Watches
pub mod Events
pub mod Rows
pub mod Device
pub mod MemHost
pub mod Shelves
pub mod Examples
