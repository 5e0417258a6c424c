-- Logs: their entries, their replay, and what a start leaves.
pub mod Entries
pub mod Replay
pub mod Masked
pub mod Settled
pub mod LogsReplayed
pub mod LogsBeside
pub mod Accepted
pub mod Logged
pub mod Idle
pub mod ClosedLogs
