pub mod Overlaid
pub mod Judged
pub mod Records
pub mod Tabled
pub mod NamesApart
pub mod Numbers
pub mod Marks
