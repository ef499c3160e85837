pub mod glue_checks
pub mod Rims
pub mod Flat
pub mod Measures
pub mod Machine
pub mod Calls
pub use Rattle.gluing_laws.specs.Laws as VolumeLaws
pub use Rattle.gluing_laws.specs.glue.Laws as GlueLaws
pub use Rattle.euler_conditions.specs.Store
pub use Rattle.solid_measure.specs.Measure
