pub mod Places
pub mod Conditions
