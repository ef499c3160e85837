pub mod Moved
pub mod Cuts
