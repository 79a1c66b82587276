pub mod SectorSlots
pub mod Directories
pub mod Lookups
