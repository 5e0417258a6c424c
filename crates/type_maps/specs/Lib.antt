pub mod Define
pub mod FreeRecords
