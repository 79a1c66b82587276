pub mod Lines
pub mod Naming
pub mod Numbers
pub mod Overlays
pub mod Refusals
pub mod Told
pub mod Unread
