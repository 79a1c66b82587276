pub mod Counting
pub mod Space
