pub mod Starts
pub mod Drawn
