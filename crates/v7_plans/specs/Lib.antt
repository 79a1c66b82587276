pub mod Placed
pub mod Quiet
pub mod Setting
pub mod Resizing
