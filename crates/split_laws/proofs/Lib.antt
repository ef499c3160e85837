mod Prelude
pub mod Stages
pub mod drawn
pub mod Openings
pub mod Holes
pub mod Flags
pub mod Whole
pub mod opened
pub mod volumes
pub mod sides
pub mod measures
