pub mod Tables
pub mod Apart
pub mod Writing
pub mod Cleared
pub mod FirstFrom
pub mod Gates
