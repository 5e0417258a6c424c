-- A start, and a restart after a power loss.
pub mod Counted
pub mod Emptied
pub mod Restarts
pub mod Beginning
