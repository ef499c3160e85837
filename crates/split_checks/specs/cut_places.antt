pub mod Crossings
pub mod Meetings
pub mod Noted
pub mod Places
pub mod Sides
pub mod Walks
