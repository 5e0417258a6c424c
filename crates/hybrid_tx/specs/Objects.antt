-- Transactions on a pool's objects: what is stored, what is deferred, and what each call does.
pub mod Stores
pub mod FieldAddresses
pub mod Transactions
pub mod Puts
pub mod Calls
pub mod Endings
pub mod Graphs
