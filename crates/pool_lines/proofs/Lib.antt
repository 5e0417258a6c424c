pub mod PoolLines
pub mod FileTransfers
