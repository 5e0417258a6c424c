pub mod Own
pub mod Shares
pub mod Limits
pub mod Premises
pub mod Independence
