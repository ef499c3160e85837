pub mod PairOps
pub mod Turns
pub mod GivenRings
