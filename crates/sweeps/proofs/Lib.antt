mod Prelude
mod Drawing
pub mod RaisedItems
mod RaisedLoops
pub mod BlockSteps
mod BlockRecord
mod Base
mod Tallies
pub use Rattle.euler_operators.proofs.Cuts
pub use Rattle.euler_operators.proofs.Leads
