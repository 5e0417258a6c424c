pub mod Within
pub mod Nearby
pub mod FreeRanges
