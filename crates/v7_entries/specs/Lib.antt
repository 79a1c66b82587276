pub mod Bodies
pub mod Found
pub mod Hits
pub mod Answers
