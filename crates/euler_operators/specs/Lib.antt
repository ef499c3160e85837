pub mod Refusal
pub mod Conditions
pub mod Effect
pub use Rattle.boundary_model.specs.Items
pub use Rattle.boundary_model.specs.Rings
pub use Rattle.boundary_model.specs.Model
pub use Rattle.boundary_model.specs.Table
pub mod Common
