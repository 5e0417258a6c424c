mod FullPlaces
pub mod KnownKept
pub mod PlacesFollowed
pub mod KnownChanged
pub mod Slots
pub mod Bounded
mod Asking
mod Releasing
