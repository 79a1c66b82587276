pub mod SeenNumbers
pub mod Usage
pub mod Tidy
pub mod Judged
