-- A transaction begins, keeps running beside others, gets more own words, and ends.
pub mod ActiveChanged
pub mod ActiveRuns
pub mod Widened
pub mod Beginning
pub mod Ending
pub mod ActiveEnds
pub mod ActiveKnown
