pub mod edge_cutting
pub mod face_drawing
pub mod solid_drawing
pub use Rattle.split_checks.specs.Cuts
pub use Rattle.split_checks.specs.Progress
pub use Rattle.split_checks.specs.cut_places.Noted
pub use Rattle.solid_walks.specs.Counters
