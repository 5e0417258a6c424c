pub mod Overlaying
pub mod Judging
pub mod Tables
pub mod Named
pub mod Distinct
