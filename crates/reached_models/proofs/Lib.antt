mod Prelude
pub mod Takers
pub mod Free
pub mod Weights
pub mod Found
pub mod Steps
pub mod Bare
pub mod Edges
pub mod Empty
pub mod Apart
