pub mod Store
pub mod Codes
pub mod Rows
pub mod View
pub mod owner_chains
pub mod ring_spots
pub use Rattle.raw_ring.specs.Rings as RawRings
pub use Rattle.raw_cells.specs.Rows as RawRows
pub mod Common
