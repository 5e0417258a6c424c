pub mod PoolScope
pub mod FinishedPuddles
pub mod Objects
pub mod Open
