pub mod Search
pub mod Counting
pub mod Placing
pub mod Turning
