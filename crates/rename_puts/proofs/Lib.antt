mod Steps
pub mod Numbers
mod Sides
mod Built
mod BuiltName
mod BuiltMove
mod BuiltReplacement
pub mod Grown
mod BuiltLonger
