pub mod Drawn
pub mod Stays
pub mod Rings
pub mod Pairs
pub mod Passes
pub mod Faces
pub mod Whole
pub mod Counted
