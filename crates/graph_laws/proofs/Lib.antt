pub mod ObjectChanges
pub mod SameReads
pub mod FreshPuddles
pub mod RewritingSteps
pub mod Exporting
pub mod Examples
