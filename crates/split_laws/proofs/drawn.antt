pub mod Solids
pub mod Drawn
