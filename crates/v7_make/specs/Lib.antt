pub mod Sizes
pub mod Sets
pub mod Stops
pub mod Chains
pub mod Made
