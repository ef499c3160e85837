-- What the laws of the crates below say, and the words of splices, passed on to `promises`.
pub use Rattle.gluing.specs.Calls.{GluesAreCalls}
pub use Rattle.gluing.specs.GlueLaws.{GluedAreSound, GluesAreAccepted, GluesMakeGlued}
pub use Rattle.gluing.specs.Measures.{GluedSolid, OthersThanGlued}
pub use Rattle.gluing.specs.VolumeLaws.{GlueAdds, OthersStay}
pub use Rattle.plane_split.specs.Calls.{SplitsAreCalls}
pub use Rattle.plane_split.specs.PartLaws.{PartsAreSolids, SplitsKeepOthers, SplitsShareVolumes, VerticesLieOnEitherSide}
pub use Rattle.plane_split.specs.SplitLaws.{SplitAreSound, SplitsAreAccepted, SplitsMakeSplit}
pub use Rattle.plane_split.specs.SplitModels.{HeldAreSound, HeldKeepOthers, HeldLieOnEitherSide, HeldShareVolumes, PartsAreHeld, SplitsAreHeld}
pub use Rattle.solid_listing.specs.Telling.{ListingTells}
pub use Rattle.sweeps.specs.BlockLaws.{BlocksAreAccepted, BlocksAreSound, OperatorsMakeBlocks}
pub use Rattle.sweeps.specs.Calls.{BlocksAreCalls, LaminasAreCalls, SweepsAreCalls}
pub use Rattle.sweeps.specs.Items.{IsApart, IsIn, count}
pub use Rattle.sweeps.specs.JournalLaws.{AcceptedIsAppended, HeldIsAtThePlace, HistoriesAreConsistent, LargerCommandsAreCalls, RedoMovesThePlace, UndoGivesTheModelBefore, UndoMovesThePlace}
pub use Rattle.sweeps.specs.LaminaLaws.{LaminaIsSound, OperatorsAreAccepted, OperatorsMakeLamina}
pub use Rattle.sweeps.specs.Measures.{NewBlock, NewFlatLamina, NewLamina, OthersThanBlock, OthersThanLamina, OthersThanSwept, SweptSolid}
pub use Rattle.sweeps.specs.OperatorLaws.{AreAccepted, EffectsAreSound, EmptyIsSound, EulerNumberGrows, InversesAreAccepted, InversesOfRunsAreAccepted, InversesOfRunsUndo, InversesUndo, NothingIsRefusedWhereAllHold, RefusalsNameTheFirstFalse, RunsAreSound, effects}
pub use Rattle.sweeps.specs.Rings.{IsRing, cut_left, cut_right, joined, splice}
pub use Rattle.sweeps.specs.SweepLaws.{PrismsAreSound, SweepsAreAccepted, SweepsMakePrisms}
