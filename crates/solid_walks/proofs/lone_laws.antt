pub mod Searches
pub mod LoneLoops
