-- What the proofs here take from elsewhere, passed on from one place. Declares nothing.
pub use Rattle.call_lists.specs.Common.{Abandon, Ask, Back, Call, Change, Command, Commit, Done, DraftJournal, DraftState, Drafting, Give, IsCall, IsConsistent, IsRecorded, IsWhole, Journal, Machine, Mark, MayLack, Memory, Model, NoDraft, NothingToRedo, NothingToUndo, Open, OpenDraft, Record, Redo, Refusal, Refused, Session, Settled, Stage, TakesSteps, Tells, TellsDraft, TellsSession, Told, Undo, Why, accepted, after_calls, after_redo, after_undo, ahead, asked, back_to, commit, depth, draft_step, first_refusal, held, made, never, open_draft, plain, redo, redo_refusal, redos, refusal_of, tried, undo, undo_refusal, undos, unless}
pub use Rattle.call_lists.specs.Laws.{CommandsAreTakenBack, Each, EachIsWhole, GoesOnFrom, IdleListsStay, IsOnward, IsTakenBack, IsUnmarked, ListsAreHistories, ListsHaveOneAnswer, ListsHaveOneOutcome, ListsKeepWhole, MarksLeadBack, MemoryCanBeLeftOut, OnlyDoneChanges, Place, PlacesAreCounted, RedosLeadToTheLast, StepsAreMarks, UndosLeadToTheFirst, after_command, after_done, heard, is_done, is_memory, machine_of, place_after, place_after_all, place_of, told_else, view_of}
pub use Rattle.call_lists.specs.Making.{AreTold, MakesAll}
pub use Rattle.commands.proofs.Settling.{ended, goes}
pub use Rattle.commands.specs.Calls.{CommandsAreCalls}
pub use Rattle.euler_laws.proofs.Common.{AreAccepted-front, effects-append, effects_keep_sound}
pub use Rattle.euler_laws.specs.Laws.{AreAccepted, effects}
pub use Rattle.euler_operators.specs.Common.{Sound}
pub use Rattle.std.proofs.Common.{Bool, List, None, Option, [], ap, append-nil, append_assoc, arith, cond, drop, false, inl, inr, is_some, length, length-take, nat_eq, refl, replicate, reverse, subst, suc, sym, take, take-append-drop, true, true≢false, zero, ℕ, ◌++◌, ◌+◌, ◌-◌, ◌∙◌, ◌∷◌, ◌≡◌, ◌≢◌, ◌≤◌, ◌⊎◌}
pub use Rattle.std.proofs.Math.Seq.{take-append-add}
pub use Rattle.std.specs.Vec.Iter.{into_iter_items, into_iter_len}
pub use Rattle.undo_journal.proofs.Journals.{same_machine}
pub use Rattle.undo_journal.proofs.Marks.{back_at_mark, each-length, each-take, further_none, further_on, further_same, further_session}
pub use Rattle.undo_journal.specs.Journal.{IsMark, back_at, each_inverse, new_draft}
unfoldable pub use Rattle.undo_journal.specs.Journal.{IsFurther}
