-- What the proofs here take from elsewhere, passed on from one place. Declares nothing.
pub use Rattle.euler_laws.proofs.Common.{AreAccepted-append, AreAccepted-back, AreAccepted-front, effects-append, effects_keep_sound, inverse_goes, inverse_undoes, inverses_go, inverses_undo}
pub use Rattle.euler_laws.proofs.shared.Empty.{empty_sound}
pub use Rattle.euler_laws.specs.Laws.{AreAccepted, effects, inverses}
pub use Rattle.euler_operators.specs.Common.{Model, Sound, effect, empty_model, first_false, first_refusal, never, verdict}
unfoldable pub use Rattle.euler_operators.specs.Common.{inverse}
pub use Rattle.euler_operators.specs.declared.Op.{Op}
pub use Rattle.euler_operators.specs.declared.Why.TheVariants.{NothingToRedo, NothingToUndo}
pub use Rattle.low_euler.specs.Ready.{Accepts, HasRoomFor, IsReady, after}
pub use Rattle.low_euler.specs.Room.{IsStepped, KeepsRoom}
pub use Rattle.low_euler.specs.Store.{HasGrown, Store, empty_store}
pub use Rattle.std.proofs.Common.{Bool, Err, List, None, Ok, OnErr, OnOk, Option, Result, Some, [], ap, append-nil, append_assoc, arith, cond, drop, false, filter, get_or, is_some, length, length-append, length-drop, length-take, length-take-le, nat_eq, not, refl, reverse, slice_index_or, subst, suc, sym, take, take-append-drop, take_all, take_at, true, true≢false, vec_len, zero, ℕ, ◌++◌, ◌+◌, ◌-◌, ◌<◌, ◌∙◌, ◌∷◌, ◌≡◌, ◌≤◌}
pub use Rattle.std.proofs.lemmas.Bool.Decides.{nat_tests}
pub use Rattle.std.proofs.lemmas.List.{drop-drop, drop_all, drop_at, drop_more, get_or-append-add, get_or-drop, get_or-reverse, get_or_append_left, length-reverse, length_push, reverse-append, reverse-reverse, take-take, take_more, take_rest}
pub use Rattle.std.proofs.lemmas.List.Elements.{filter-append}
pub use Rattle.undo_journal.specs.Blocks.{block_steps}
pub use Rattle.undo_journal.specs.Histories.{Call, Follows, IsConsistent, abandoned, acted, after_call, after_calls, committed, first_of, made, redone, redos, run_refusal, stopped, tried, undone, undos, unless}
pub use Rattle.undo_journal.specs.Journal.{DraftJournal, IsMark, IsRecorded, Journal, after_act, after_commit, after_redo, after_step, after_steps, after_undo, back_at, each_inverse, new_draft, new_journal, record_of, recorded}
unfoldable pub use Rattle.undo_journal.specs.Journal.{IsFurther}
pub use Rattle.undo_journal.specs.Laws.{AcceptedIsAppended, HeldIsAtThePlace, HistoriesAreConsistent, LargerCommandsAreCalls, RedoMovesThePlace, UndoGivesTheModelBefore, UndoMovesThePlace}
pub use Rattle.undo_journal.specs.Machine.{DraftState, Machine, accepted, act, ahead, back_to, depth, draft_step, forth_to, held, open_draft, redo, start, undo}
pub use Rattle.undo_journal.specs.Recorded.{model_at, models}
pub use Rattle.undo_journal.specs.Sessions.{AllHaveRoom, AllLead, IsDrafted, IsJournal, IsKept, LeadsBothWays, RecordsHaveRoom, all_after, command_of, draft_of, gone_forth, journal_of, machine_of, models_ahead, models_back, opened}
unfoldable pub use Rattle.undo_journal.specs.Sessions.{future_of, past_of}
pub use Rattle.undo_journal.specs.Records.{Record, one_record}
pub use Rattle.low_euler.specs.Told.{told_inverse}
pub use Rattle.undo_journal.specs.Told.{ArePaired, Pairs, inverses_of, is_on_rings, kept_inverse, left_after, next_inverse, step_inverses, taken_back, tells, untold_in}
