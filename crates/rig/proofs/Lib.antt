pub mod Looking
pub mod Offers
