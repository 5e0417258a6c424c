-- A file that is placed on a device as a pool.
pub mod FilledFrames
pub mod FilledWorlds
pub mod FreeFrames
pub mod PlacedPuddles
pub mod PlacedApart
pub mod PlacedSomewhere
pub mod PlacedWorlds
pub mod Refusals
pub mod TypesMissing
pub mod TypesWider
pub mod Imported
