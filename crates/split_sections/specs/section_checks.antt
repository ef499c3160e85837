pub mod Sections
pub mod Cycles
