pub mod Cycle
pub mod Copied
pub mod Strip
pub mod Whole
