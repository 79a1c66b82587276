pub mod Holes
pub mod Finding
pub mod Listings
