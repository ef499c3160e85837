pub mod Steps
pub mod Sides
pub mod Loops
pub mod Turns
pub mod Whole
pub mod Accepted
