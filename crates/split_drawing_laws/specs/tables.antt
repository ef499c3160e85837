pub mod Doubled
pub mod Chords
pub mod Laws
