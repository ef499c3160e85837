pub mod OneCut
pub mod Steps
pub mod Runs
pub mod Premises
pub mod Whole
