-- The tables of a registry: their records, what they stand for, and when they are sound.
pub mod Spaces
pub mod Keyed
pub mod Pools
pub mod Puddles
pub mod Tables
pub mod SoundTables
pub mod Puts
pub mod Places
pub mod Placement
pub mod Types
pub mod Registry
