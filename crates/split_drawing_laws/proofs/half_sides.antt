pub mod Pieces
pub mod Starts
pub mod PlaceEnds
