pub mod Counted
pub mod Emptied
pub mod Exact
mod Formatting
mod Reasons
pub mod Recovering
pub mod Shown
