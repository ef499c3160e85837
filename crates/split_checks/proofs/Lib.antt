mod Prelude
pub mod cut_places_laws
pub mod place_order_laws
pub mod face_pairs_laws
pub mod begin_checks_laws
pub use Rattle.solid_measure.proofs.Areas
pub use Rattle.solid_measure.proofs.Planes
pub use Rattle.solid_measure.proofs.solid_checks_laws.FaceWalks
pub use Rattle.solid_measure.proofs.solid_checks_laws.Searches
pub use Rattle.solid_measure.proofs.solid_counts_laws.HowMany
