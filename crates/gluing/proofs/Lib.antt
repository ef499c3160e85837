mod Prelude
pub mod glue_checks_laws
mod Found
mod Remaining
mod Joined
mod Opened
