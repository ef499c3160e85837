pub mod Counters
pub mod Left
pub mod Least
pub use Rattle.euler_conditions.specs.Ready
pub use Rattle.euler_conditions.specs.Store
