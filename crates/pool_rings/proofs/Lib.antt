pub mod Spliced
pub mod Closed
