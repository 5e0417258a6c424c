pub mod Cuts
pub mod Digits
pub mod Taken
pub mod FieldLists
pub mod Points
pub mod Legal
