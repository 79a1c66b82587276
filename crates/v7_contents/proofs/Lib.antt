pub mod Bytes
pub mod Stored
pub mod Listed
pub mod Answered
pub mod Found
