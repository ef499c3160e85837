pub mod Splittable
pub mod Parts
