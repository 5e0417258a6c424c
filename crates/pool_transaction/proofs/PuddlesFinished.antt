-- Puddles are rewritten to their ends before a line writes to them.
pub mod FinishedPools
pub mod Leading
pub mod FoundAfter
pub mod ActiveFinishes
