pub mod Reach
pub mod Silence
pub mod Spelling
pub mod Steps
