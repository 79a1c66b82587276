pub mod Counts
pub mod Looked
pub mod Moments
pub mod Puts
pub mod States
pub mod Store
