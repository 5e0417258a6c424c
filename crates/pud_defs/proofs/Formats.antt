-- Words, images, and a device that was just formatted.
pub mod Words
pub mod Images
pub mod Blank
pub mod Geometry
