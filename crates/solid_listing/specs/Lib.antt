pub mod Writing
pub mod Lines
pub mod Listing
pub mod Replies
pub mod Telling
pub mod Common
