pub mod Rows
pub mod Swaps
pub mod Handing
