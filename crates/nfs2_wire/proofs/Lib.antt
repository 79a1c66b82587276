pub mod Handles
pub mod Lengths
pub mod AllSent
