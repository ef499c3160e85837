pub mod Raised
pub mod Copies
pub mod Raising
