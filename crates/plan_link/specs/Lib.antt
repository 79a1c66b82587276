pub mod Links
pub mod Judging
