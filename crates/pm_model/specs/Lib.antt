pub mod Words
pub mod Moments
pub mod Counts
pub mod Calls
pub mod Picking
pub mod Changes
pub mod Masks
pub mod Reads
