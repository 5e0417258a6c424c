pub mod Open
pub mod Appending
pub mod Counted
pub mod Cutting
