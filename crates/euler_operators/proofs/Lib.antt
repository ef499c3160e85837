pub use Rattle.boundary_model.proofs.Cuts
pub use Rattle.boundary_model.proofs.Leads
pub mod Common
