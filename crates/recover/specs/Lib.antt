pub mod Verdicts
pub mod Judging
pub mod RecoveredLogs
pub mod Recovery
pub mod Upgrading
