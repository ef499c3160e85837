mod Prelude
pub mod Magnitudes
pub mod Orders
mod Cuts
mod Multiples
pub mod Crossings
mod Coordinates
pub mod Integers
pub mod Vectors
pub mod Sweeps
pub mod Rectangles
