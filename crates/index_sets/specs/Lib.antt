pub mod Bits
pub mod Free
pub mod Queue
pub mod Row
