pub mod Told
pub mod CutWhole
