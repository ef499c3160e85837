pub mod Normals
pub mod Kept
pub mod Mates
pub mod SectionHalves
pub mod Sorted
