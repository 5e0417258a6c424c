-- Logs: their entries, their replay, which of them are allowed, and the image that they leave.
pub mod Entries
pub mod Replay
pub mod Allowed
pub mod Settled
pub mod LogsReplayed
