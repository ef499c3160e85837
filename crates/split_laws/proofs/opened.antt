pub mod Starts
pub mod Kept
pub mod Caps
pub mod InTurn
