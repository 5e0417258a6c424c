-- Where things lie on a device, and what words, bits, names and modes mean.
pub mod Layout
pub mod Image
pub mod TypeMap
pub mod Identifiers
pub mod Bases
pub mod Geometry
pub mod Frames
pub mod Modes
pub mod Names
pub mod Headers
pub mod Rights
