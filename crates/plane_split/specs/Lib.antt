pub mod Drawn
pub mod SplitModels
pub use Rattle.split_laws.specs.SplitOps
pub use Rattle.split_laws.specs.drawn.Kept
pub use Rattle.split_opening_laws.specs.sections.InTurn
pub mod solid_opening
pub mod Machine
pub mod Calls
pub use Rattle.split_laws.specs.Laws as SplitLaws
pub use Rattle.split_laws.specs.measures.Laws as PartLaws
pub use Rattle.shapes.specs.Faces
pub use Rattle.shapes.specs.split.Sides
