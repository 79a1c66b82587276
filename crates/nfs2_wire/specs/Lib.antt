pub mod Handles
pub mod Arguments
pub mod Shapes
pub mod AllCalls
pub mod Replies
pub mod Bounds
pub mod AllSending
