pub mod Bits
pub mod Words
pub mod Levels
pub mod Summed
pub mod Cells
pub mod Lasts
