pub mod Capped
pub mod Stages
pub mod Closing
