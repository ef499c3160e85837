pub mod Products
pub mod Paths
pub mod Sums
pub mod FlatFaces
pub mod Agreeing
