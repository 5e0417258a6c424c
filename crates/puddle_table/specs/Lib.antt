pub mod Records
pub mod Placed
