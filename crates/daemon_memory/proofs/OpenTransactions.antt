-- The active transactions: one more, one fewer, and those that stay.
pub mod ActiveUnder
pub mod OpenNames
pub mod Others
pub mod OpenBeside
pub mod Sessions
pub mod NoneActive
pub mod Committing
pub mod ActiveMore
pub mod OthersActive
pub mod AtDepth
pub mod Leaving
pub mod Counting
