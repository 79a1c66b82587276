mod Fitting
mod Freeing
pub mod Listed
pub mod Overlaid
pub mod Shapes
