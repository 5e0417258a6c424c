pub mod Registry
pub mod Puts
pub mod Adding
pub mod Places
pub mod Pools
pub mod Growth
pub mod Placing
