pub mod Lists
pub mod Steps
pub mod Walk
pub mod Blocks
