pub mod LinesDone
pub mod DeviceStarts
