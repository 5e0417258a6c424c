pub mod Files
pub mod Importing
pub mod Reading
pub mod Rewriting
pub mod Effects
pub mod Promises
