pub mod Running
mod Entries
mod Trees
mod KeptFrames
mod KeptFiles
mod Trimming
mod Mapping
mod Whole
mod Steps
mod TrimSteps
mod Settling
mod Decisions
mod Updating
mod SettleSteps
mod Zeros
mod Needed
pub mod Held
mod Mending
mod Differing
