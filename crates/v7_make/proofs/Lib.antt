mod Counts
mod Taking
mod Filling
mod Steps
mod Stopping
mod Lowest
mod Fresh
mod Parts
mod Making
mod FreshSteps
mod Outside
mod Puts
pub mod Fitting
