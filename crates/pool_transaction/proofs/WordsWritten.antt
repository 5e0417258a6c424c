-- Which words a line writes within an active transaction, and in which log.
pub mod OpenLogs
pub mod UpdatesWritten
pub mod ObjectsWritten
