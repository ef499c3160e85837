pub mod Halves
pub mod Remaining
