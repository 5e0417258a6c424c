-- The pool that a line names: why the line is refused, and what is found of it.
pub mod Causes
pub mod OwnRefusals
pub mod Found
pub mod Needs
pub mod FoundFirst
