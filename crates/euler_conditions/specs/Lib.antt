pub mod Ready
pub mod Ends
pub mod Answer
pub mod Parts
pub mod Numbers
pub use Rattle.halfedge_arena.specs.Store
pub use Rattle.halfedge_arena.specs.Codes
