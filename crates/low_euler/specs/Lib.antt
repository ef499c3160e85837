pub mod face_operators
pub mod Room
pub mod Told
pub mod steps
pub use Rattle.euler_conditions.specs.Ready
pub use Rattle.euler_conditions.specs.Store
pub use Rattle.euler_conditions.specs.Codes
