pub mod Addresses
pub mod Boards
pub mod Layout
pub mod Rigs
pub mod Silent
