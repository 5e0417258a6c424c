pub mod Writes
pub mod Buffers
pub mod Phases
pub mod Worlds
pub mod Tables
pub mod Masked
