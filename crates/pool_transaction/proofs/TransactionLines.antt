-- Lines of transactions: what they do to the device and to the world.
pub mod Acted
pub mod Changing
pub mod Depth
pub mod Entering
pub mod TransactionTaken
pub mod Undoing
pub mod Commanding
pub mod Leading
