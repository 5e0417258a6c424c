mod Examples
pub mod WordKinds
pub mod Turns
pub mod Levels
pub mod ModeLevels
pub mod Agreement
pub mod Reading
pub mod LegalModes
pub mod TextsFound
