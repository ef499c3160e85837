mod Prelude
pub mod Stands
pub mod Tellings
pub mod Cutting
pub mod CutStore
pub mod Filling
pub mod EdgeRows
pub mod Views
pub mod Writes
pub mod Rooms
pub mod Empty
pub mod Indexed
pub mod Nexts
pub mod owner_chains_laws
pub mod ring_spots_laws
pub mod Common
