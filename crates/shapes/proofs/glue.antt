pub mod Renamings
pub mod Swapped
pub mod Facing
pub mod Points
pub mod Facts
