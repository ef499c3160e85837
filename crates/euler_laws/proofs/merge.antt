pub mod Merge
pub mod Part
