pub mod Controls
pub mod Replies
pub mod Sending
