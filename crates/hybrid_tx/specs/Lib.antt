pub mod PoolScopes
pub mod Objects
pub mod Open
