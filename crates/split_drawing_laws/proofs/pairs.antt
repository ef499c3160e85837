pub mod LoopPlaces
pub mod Sorted
pub mod Whole
