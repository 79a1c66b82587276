pub mod Children
pub mod Leaving
