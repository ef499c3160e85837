pub mod Joined
pub mod Whole
