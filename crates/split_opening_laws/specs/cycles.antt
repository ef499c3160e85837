pub mod Permuting
pub mod SectionCycles
pub mod Laws
