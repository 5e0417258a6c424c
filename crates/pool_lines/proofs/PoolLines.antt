-- Lines on pools: what is read, where frontiers are led, and what is made and dropped.
pub mod Readable
pub mod Rewritten
pub mod Frontiers
pub mod Made
