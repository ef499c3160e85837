mod Prelude
pub mod Acting
pub mod Hearing
pub mod Judged
pub mod Counting
pub mod Leaving
pub mod RunLaws
pub mod Reaching
pub mod Outputs
pub mod Histories
pub mod Saying
pub use Rattle.sweeps.proofs.Cuts
pub use Rattle.sweeps.proofs.Leads
