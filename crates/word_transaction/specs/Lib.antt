pub mod Scope
pub mod Coverage
pub mod Running
pub mod Promises
pub mod Marks
