mod Prelude
pub mod Lists
pub mod Histories
pub mod Marks
pub mod Whole
pub mod Places
pub mod OneAnswer
pub mod TakenBack
pub mod Untouched
