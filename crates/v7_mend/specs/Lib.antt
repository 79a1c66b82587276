pub mod Keeps
pub mod Runs
pub mod Settled
pub mod Trims
pub mod Settles
pub mod Repairs
pub mod Changes
