pub mod Records
pub mod Located
pub mod Kept
pub mod Lowest
pub mod HasBase
