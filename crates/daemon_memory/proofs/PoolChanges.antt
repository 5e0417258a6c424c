-- Pools that are made, changed, grown, placed and dropped beside open transactions.
pub mod PuddlesLeft
pub mod Goals
pub mod PoolsBeside
pub mod PoolsApart
pub mod RecordsApart
pub mod TablesBeside
pub mod RestBeside
pub mod AllMembers
pub mod InTurn
pub mod GraphLonger
pub mod PoolsGrown
pub mod Pooling
pub mod PlacedWords
pub mod PlacedPools
