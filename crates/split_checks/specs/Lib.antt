pub mod cut_places
pub mod place_order
pub mod begin_checks
pub mod Cuts
pub mod Progress
pub use Rattle.solid_measure.specs.Measure
pub use Rattle.solid_measure.specs.solid_checks.Least
pub mod Common
