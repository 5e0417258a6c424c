pub mod Faults
pub mod Read
pub mod Spelled
pub mod Written
