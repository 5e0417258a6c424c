pub mod LayoutListed
pub mod Checked
pub mod Summary
pub mod SummaryListed
