pub mod Taken
pub mod Closed
pub mod Split
