pub mod Sets
pub mod Given
