pub mod Events
pub mod Followed
pub mod Poked
pub mod Losses
pub mod Shelved
pub mod Told
