pub mod Maps
pub mod Clips
pub mod Batches
