pub mod Back
pub mod Lengths
pub mod Little
pub mod Parts
pub mod RoundTrip
