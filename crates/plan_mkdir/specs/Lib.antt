pub mod Judging
pub mod Inodes
pub mod Making
pub mod Spare
pub mod Free
