mod Prelude
pub mod StepsLeft
pub mod edge_cutting_laws
pub mod face_drawing_laws
mod solid_drawing_laws
pub use Rattle.split_checks.proofs.cut_places_laws.Lists as CutPlaces
