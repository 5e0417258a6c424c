-- The graph of a pool: what its words stand for, how it changes, and how it is exported.
pub mod Stored
pub mod Graph
pub mod GraphChanges
pub mod DeferredValues
pub mod Holdings
pub mod ExportFile
pub mod Exported
