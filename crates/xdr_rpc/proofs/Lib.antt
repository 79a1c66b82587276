pub mod Numbers
pub mod Sheets
pub mod RoundTrip
pub mod Sent
pub mod Served
