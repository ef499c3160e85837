mod Prelude
pub mod crossings
pub mod drawings
pub mod pairs
pub mod loop_sides
pub mod half_sides
pub mod face_sides
pub mod cut_volumes
pub mod drawn_volumes
pub mod tables
