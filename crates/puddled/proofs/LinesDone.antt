-- A line from its command to what is printed of it.
pub mod Saying
pub mod Carrying
pub mod LinesCarriedOut
pub mod Lines
pub mod Led
pub mod Listed
pub mod TypeLines
