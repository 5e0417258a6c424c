pub mod Batches
pub mod Worlds
pub mod Tables
