-- Puddles of a pool that is rewritten beside open transactions: what its steps leave, and where its frontiers are then.
pub mod StepsBeside
pub mod StepsKept
pub mod StepsMoved
pub mod Arriving
pub mod ActiveStepped
pub mod Rewriting
pub mod OwnMore
pub mod ActiveAgain
