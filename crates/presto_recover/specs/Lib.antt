pub mod Boards
pub mod Opened
pub mod Recovering
pub mod Refused
