pub mod Formats
pub mod KeyedTables
pub mod PoolGraphs
pub mod RegistryTables
pub mod Logging
pub mod StateMachine
pub mod Output
pub mod Examples
