pub mod Filled
pub mod Numbers
pub mod Sides
pub mod Bounds
pub mod Lifted
