pub mod Commands
pub mod OpenTransactions
pub mod PoolChanges
pub mod PoolsKnown
pub mod PuddlesRewritten
pub mod PoolsFound
