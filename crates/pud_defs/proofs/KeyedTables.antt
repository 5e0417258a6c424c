-- Tables that are read by their keys.
pub mod Keyed
pub mod KeyedMaps
pub mod KeyedEach
pub mod KeyedPlaces
pub mod DistinctKeys
