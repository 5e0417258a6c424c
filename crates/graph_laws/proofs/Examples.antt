-- Worked examples of the definitions, proved by computation.
pub mod Graphs
pub mod Steps
pub mod Mixed
