pub mod Changing
pub mod Refusing
pub mod Lifetime
pub mod Finishing
pub mod Writing
pub mod Ending
pub mod Premises
