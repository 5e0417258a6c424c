pub mod CommandLine
pub mod Parsing
