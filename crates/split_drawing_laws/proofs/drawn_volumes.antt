pub mod Bounds
pub mod Volumes
pub mod DrawWhole
