mod Founds
mod Givens
pub mod Lists
pub mod Obstacles
mod Openings
mod Overlays
pub mod Runs
mod Serving
