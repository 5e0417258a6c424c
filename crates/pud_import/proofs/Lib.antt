pub mod FileChecks
pub mod RoundTrip
pub mod FilesPlaced
