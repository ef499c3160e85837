pub mod Stuck
pub mod Passes
