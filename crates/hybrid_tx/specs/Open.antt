-- Transactions that stay open: the words of each and of all of them, and what an image has that is left meanwhile.
pub mod ManyOpen
pub mod Masks
pub mod Beside
