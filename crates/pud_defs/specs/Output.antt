-- What is printed: replies, and the texts of a start, of a listing and of the modes that show a device.
pub mod DumpText
pub mod StartText
pub mod Listing
pub mod Texts
pub mod LayoutText
pub mod CheckText
