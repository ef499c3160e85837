pub mod Points
pub mod Turns
pub mod Conditions
pub mod Keys
pub mod Known
