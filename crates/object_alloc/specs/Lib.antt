pub mod Alloc
