pub mod Paths
pub mod Rows
pub mod Replies
pub mod Calls
