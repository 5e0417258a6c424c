-- What is exported of a pool has the pool's graph, and keeps it when it is placed elsewhere.
pub mod Chunks
pub mod Pieces
pub mod BasesApart
pub mod Moved
pub mod Plain
pub mod Law
pub mod Placed
