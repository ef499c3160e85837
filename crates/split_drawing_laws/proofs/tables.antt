pub mod Composed
pub mod Doubled
pub mod Chords
