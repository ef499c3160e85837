pub mod BelowHalves
pub mod LowMates
