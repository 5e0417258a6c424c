-- What is printed is one line, or a known number of lines.
pub mod Said
pub mod StartText
pub mod DumpText
pub mod Listing
