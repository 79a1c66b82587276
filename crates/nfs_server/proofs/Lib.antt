pub mod Devices
pub mod Ends
pub mod Endings
pub mod Lists
pub mod Names
pub mod Outcomes
pub mod Workers
