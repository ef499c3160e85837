mod Prelude
pub mod Copies
pub mod Journals
pub mod Consistent
pub mod Rooms
pub mod Turns
pub mod Marks
pub mod Corners
pub mod Kept
pub mod Seen
pub mod Inverses
pub mod BlockSteps
