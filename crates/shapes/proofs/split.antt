pub mod Sorted
pub mod Facts
