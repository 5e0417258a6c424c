pub mod Shares
pub mod Effects
pub mod Refusals
pub mod Turns
pub mod Runs
pub mod WholeRuns
pub mod ExamplesNeighbours
