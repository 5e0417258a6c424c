-- A fresh puddle after the others.
pub mod Grown
pub mod StaysWild
