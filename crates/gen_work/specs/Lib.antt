pub mod GenLines
pub mod Parts
