-- What makes bytes an export file.
pub mod AsDevice
pub mod BasesApart
pub mod ByPuddles
pub mod FileParts
pub mod Numbered
pub mod Plainness
pub mod SlotsOfFile
pub mod Spelled
pub mod TypesFound
pub mod TypesLegal
pub mod UsedPlaces
pub mod Zeroes
