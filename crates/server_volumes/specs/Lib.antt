pub mod Ends
pub mod Kept
pub mod Lines
pub mod Obstacles
pub mod Opens
pub mod Starts
pub mod Stopped
