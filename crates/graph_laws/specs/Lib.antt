pub mod Changes
pub mod ReferenceCounts
pub mod Reads
pub mod Slots
pub mod Rewriting
pub mod Steps
pub mod Placed
pub mod Exports
