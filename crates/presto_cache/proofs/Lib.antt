pub mod Slots
pub mod Known
pub mod Puts
pub mod Filling
pub mod Clearing
pub mod Writing
pub mod Places
pub mod Runs
pub mod Seen
pub mod Listing
pub mod Counting
pub mod Knowing
pub mod Making
mod Sparing
mod Keeping
mod Reading
