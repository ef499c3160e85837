pub mod DrawingOps
pub mod DrawnIn
pub mod Pairs
pub mod Passing
pub mod Laws
