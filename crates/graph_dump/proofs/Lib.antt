pub mod Spelling
pub mod Placing
pub mod Joining
pub mod Objects
pub mod Dumped
pub mod Written
