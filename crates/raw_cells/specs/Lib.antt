pub mod Blocks
pub mod Numbers
pub mod Ownership
pub mod Rows
