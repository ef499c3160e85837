mod Prelude
pub mod Settling
pub mod Kept
pub mod Calls
mod Knowing
mod Steps
mod SplitSteps
