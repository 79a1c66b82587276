pub mod Boards
pub mod Formats
pub mod Judged
pub mod Overlay
pub mod Words
