pub mod Corners
pub mod Raising
pub mod Measures
pub mod Machine
pub mod Calls
pub mod Asked
pub use Rattle.euler_operators.specs.Items
pub use Rattle.euler_operators.specs.Rings
pub use Rattle.euler_laws.specs.Laws as OperatorLaws
pub use Rattle.undo_journal.specs.Laws as JournalLaws
pub use Rattle.undo_journal.specs.Journal
pub use Rattle.undo_journal.specs.Machine as PlainMachine
pub use Rattle.shapes.specs.Measure
pub use Rattle.sweeps_laws.specs.lamina.Laws as LaminaLaws
pub use Rattle.sweeps_laws.specs.prism.Laws as SweepLaws
pub use Rattle.sweeps_laws.specs.block.Laws as BlockLaws
