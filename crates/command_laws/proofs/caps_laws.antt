pub mod PartCaps
pub mod Whole
pub mod OpenedCaps
