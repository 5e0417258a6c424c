pub mod Entries
pub mod Frontiers
pub mod Batches
pub mod Graphs
