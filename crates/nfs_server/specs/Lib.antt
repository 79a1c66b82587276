pub mod Course
pub mod Lines
pub mod Outcome
pub mod Run
