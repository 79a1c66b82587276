mod Cutting
pub mod Loans
pub mod Overlays
pub mod Sayings
pub mod Statuses
