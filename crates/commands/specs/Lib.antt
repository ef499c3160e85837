pub mod Common
pub mod Changes
pub mod Known
pub mod Telling
pub mod Steps
pub mod Calls
