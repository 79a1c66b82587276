pub mod TextBlocks
pub mod Judging
pub mod Making
