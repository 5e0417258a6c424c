pub mod Padded
pub mod Spelled
pub mod Told
