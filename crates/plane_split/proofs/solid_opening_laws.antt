pub mod Items
pub mod CutOff
pub mod Raised
pub mod Killed
pub mod Cycles
pub mod Turns
pub mod Closed
