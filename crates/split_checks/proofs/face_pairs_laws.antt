pub mod Counts
pub mod Meetings
pub mod Taken
