-- The words of the crates below that the files here and promises cite, passed on from one place. Declares nothing.
pub use Rattle.commands.specs.Calls.{IsCall}
pub use Rattle.commands.specs.Changes.{MayLack, made, refusal_of}
pub use Rattle.commands.specs.Telling.{IsWhole, Settled, TakesSteps, Tells, TellsDraft, TellsSession, asked, shown, steps_in}
pub use Rattle.call_types.specs.declared.command.Call.TheVariants.{Abandon, Back, Commit, Give, Mark, Open}
pub use Rattle.call_types.specs.declared.command.Call.{Call}
pub use Rattle.call_types.specs.declared.command.Command.TheVariants.{Ask, Change, Redo, Undo}
pub use Rattle.call_types.specs.declared.command.Command.{Command}
pub use Rattle.solid_listing.specs.declared.told.Told.TheVariants.{Done, Memory, NoDraft, Refused}
pub use Rattle.solid_listing.specs.declared.told.Told.{Told}
pub use Rattle.commands.specs.declared.stage.OpenDraft.{OpenDraft}
pub use Rattle.commands.specs.declared.stage.Stage.TheVariants.{Drafting, Session}
pub use Rattle.commands.specs.declared.stage.Stage.{Stage}
pub use Rattle.euler_operators.specs.Common.{Model, empty_model, first_refusal, never, verdict}
unfoldable pub use Rattle.euler_operators.specs.Common.{first_false}
pub use Rattle.euler_operators.specs.declared.Op.{Op}
pub use Rattle.euler_operators.specs.declared.Refusal.{Refusal}
pub use Rattle.euler_operators.specs.declared.Why.TheVariants.{NothingToRedo, NothingToUndo}
pub use Rattle.euler_operators.specs.declared.Why.{Why}
pub use Rattle.gluing.specs.Measure.{answer, six_volume, solid_refusal}
pub use Rattle.undo_journal.specs.Histories.{IsConsistent, after_calls, redos, tried, undos, unless}
pub use Rattle.undo_journal.specs.Journal.{DraftJournal, IsRecorded, Journal, after_act, after_commit, after_redo, after_step, after_undo, new_draft, new_journal, plain}
pub use Rattle.undo_journal.specs.Machine.{DraftState, Machine, accepted, act_refusal, ahead, back_to, commit, depth, draft_step, held, open_draft, redo, redo_refusal, undo, undo_refusal}
pub use Rattle.undo_journal.specs.Recorded.{model_at}
pub use Rattle.undo_journal.specs.Records.{Record}
