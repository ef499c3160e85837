pub mod Judging
pub mod Consoles
pub mod Hearing
