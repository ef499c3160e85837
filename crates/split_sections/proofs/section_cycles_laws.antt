pub mod Meetings
pub mod Sums
pub mod Started
pub mod Meeting
pub mod Leads
pub mod Rounds
pub mod Found
pub mod Whole
