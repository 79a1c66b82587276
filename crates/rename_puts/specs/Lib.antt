pub mod Slots
pub mod Times
pub mod Renamed
