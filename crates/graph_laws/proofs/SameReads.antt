-- What is read of a pool, and pools of which the same is read.
pub mod Words
pub mod Pointers
pub mod Same
pub mod Unread
pub mod Within
pub mod Places
pub mod LiveSlots
pub mod StoredImages
pub mod UsedTypes
