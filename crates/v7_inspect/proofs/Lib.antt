pub mod Tallies
pub mod Usages
pub mod ViewUsage
pub mod Mending
mod Unnamed
