pub mod Answers
pub mod Contents
pub mod Filling
pub mod Placing
pub mod Rewrites
pub mod Places
pub mod Sized
