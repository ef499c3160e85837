-- The types of this crate and the words of the journal that its files cite, collected in one place. This file declares nothing.
pub use Rattle.euler_operators.specs.Common.{Model, Sound}
pub use Rattle.euler_operators.specs.declared.Refusal.{Refusal}
pub use Rattle.undo_journal.specs.Histories.{IsConsistent}
pub use Rattle.undo_journal.specs.Journal.{DraftJournal, IsFurther, IsMark, Journal, after_commit, after_redo, after_steps, after_undo, back_at, new_draft, record_of, recorded}
pub use Rattle.undo_journal.specs.Machine.{Machine, accepted, ahead, depth, held, redo_refusal, undo_refusal}
pub use Rattle.undo_journal.specs.declared.session.Failure.{Failure}
pub use Rattle.call_types.specs.declared.command.Change.{Change}
pub use Rattle.call_types.specs.declared.command.Question.{Question}
pub use Rattle.call_types.specs.declared.command.Command.{Command}
pub use Rattle.call_types.specs.declared.command.Call.{Call}
pub use Rattle.solid_listing.specs.declared.told.Told.{Told}
pub use Rattle.solid_listing.specs.declared.told.Told.TheVariants.{Done, InDraft, Memory, NoDraft, Refused}
pub use Rattle.commands.specs.declared.stage.OpenDraft.{OpenDraft}
pub use Rattle.commands.specs.declared.stage.Stage.{Stage}
pub use Rattle.commands.specs.declared.stage.Stage.TheVariants.{Drafting, Session}
