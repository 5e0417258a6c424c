pub mod Applying
pub mod Places
pub mod Left
pub mod Placed
pub mod Whole
pub mod Closing
pub mod Past
