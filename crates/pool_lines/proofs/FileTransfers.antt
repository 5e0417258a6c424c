-- Lines on files: a pool is written into a file, or made of one.
pub mod ExportLines
pub mod FileLines
pub mod FileNames
pub mod ImportLines
pub mod ImportRefusals
pub mod PlacedBeside
