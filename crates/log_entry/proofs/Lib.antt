pub mod Readings
pub mod Left
pub mod Copies
pub mod Readdressed
