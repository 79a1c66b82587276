pub mod Words
pub mod Tests
pub mod Calls
pub mod Refusals
pub mod Order
pub mod Sending
