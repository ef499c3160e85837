pub mod SweepOps
pub mod Ready
pub mod Part
pub mod Laws
