pub mod LookUp
pub mod InOrder
