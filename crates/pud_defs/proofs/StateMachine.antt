-- The worlds that images stand for, and lines, steps and runs.
pub mod Parts
pub mod Worlds
pub mod IdleWorlds
pub mod Upgraded
pub mod Lines
pub mod Runs
pub mod Steps
pub mod PoolRefusals
pub mod Changing
pub mod NamesRead
pub mod Commands
pub mod Stands
