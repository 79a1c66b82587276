mod Raising
mod Recorded
mod Sectors
mod Taking
