pub mod Spots
pub mod SpotTables
pub mod Last
pub mod Edges
pub mod Labels
