pub mod SlotClasses
pub mod Updates
pub mod Lifetimes
pub mod PuddlesFinished
pub mod NewObjects
pub mod WordsWritten
pub mod TransactionLines
