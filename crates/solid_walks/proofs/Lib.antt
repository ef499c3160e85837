mod Prelude
pub mod face_walks_laws
pub mod lone_laws
pub mod NextRing
pub mod NextFace
pub mod TwoWays
pub use Rattle.euler_conditions.proofs.Borders
pub use Rattle.euler_conditions.proofs.Known
