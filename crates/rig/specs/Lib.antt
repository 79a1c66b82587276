pub mod Clocks
pub mod Devices
pub mod Hosts
pub mod Links
pub mod Looked
pub mod Offers
