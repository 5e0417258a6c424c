-- The state machine that a script drives: worlds, lines, steps and runs.
pub mod World
pub mod PoolChanges
pub mod Imports
pub mod Transactions
pub mod Grammar
pub mod Step
pub mod Gives
pub mod Changing
pub mod Run
pub mod Stands
