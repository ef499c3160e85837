pub mod Conditions
pub mod Flaws
