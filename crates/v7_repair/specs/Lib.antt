pub mod Free
pub mod Leaves
pub mod Runs
