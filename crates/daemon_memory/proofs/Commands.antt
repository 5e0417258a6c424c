-- What commands do beside open transactions.
pub mod Keeping
pub mod Beside
pub mod Beneath
pub mod Applying
pub mod Defining
pub mod Coming
pub mod Turns
pub mod Losing
pub mod Acting
pub mod Leading
pub mod CarriedOut
