pub mod HowMany
pub mod Sums
pub mod LoopRounds
pub mod FaceSums
pub mod Tallies
