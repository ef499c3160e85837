mod Prelude
pub mod solid_checks_laws
pub mod solid_counts_laws
pub mod ShortNumbers
pub mod Areas
pub mod AreaRounds
pub mod SweptRounds
pub mod LeastRounds
pub mod FlatFaces
pub mod Boundaries
pub mod Planes
pub mod Volumes
pub use Rattle.solid_walks.proofs.face_walks_laws
