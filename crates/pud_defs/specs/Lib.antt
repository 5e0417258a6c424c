pub mod Formats
pub mod Logging
pub mod RegistryTables
pub mod PoolGraphs
pub mod Output
pub mod StateMachine
