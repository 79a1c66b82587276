pub mod Answers
pub mod Asking
pub mod Lines
pub mod News
pub mod Running
pub mod Waiting
pub mod Words
