-- What the proofs here take from elsewhere, passed on from one place. Declares nothing.
pub use Rattle.commands.proofs.Settling.{settled_move}
pub use Rattle.commands.specs.Telling.{Tells, asked, shown}
pub use Rattle.commands.specs.declared.stage.Stage.{Stage}
pub use Rattle.script_reader.specs.Grammar.{opened}
pub use Rattle.script_reader.specs.Words.{words}
pub use Rattle.script_running.specs.Common.{Told, Ask, Call, Change, Command, Drafting, EndsEarly, Fault, Found, Gathers, HasRead, IsCall, IsConsistent, IsFresh, Journal, LeavesRecord, Lines, LongLine, Machine, Model, NotAscii, Outgoing, Puts, Question, Redo, Refusal, Request, RunFault, Session, Settled, Sound, Stops, Summary, TellsSession, Undo, accepted, after_call, after_calls, after_redo, after_undo, held, is_ascii, line_of, lines_of, made, new_journal, operators_of, outgoing, over, reader_of, record_of, recorded, request_of, request_of_words, start, taken_of, to_come, told_of_move, unread_of, value_or_refusal, with_newlines, within_limit, has_newline}
unfoldable pub use Rattle.script_running.specs.Common.{arguments}
pub use Rattle.script_running.specs.Output.{answered, given, moved, obeyed, output_from, output_of, summary_from, summary_of}
unfoldable pub use Rattle.script_running.specs.Output.{answer_of, machine_after}
pub use Rattle.script_running.specs.Outs.{Outs, is_clean, stops, was_stopped}
pub use Rattle.script_running.specs.Runs.{BreaksOff, IsTooLong, Moves, Runs, Served, WriteFails}
pub use Rattle.script_running.specs.declared.script_judging.calls.Console.{Console}
pub use Rattle.script_running.specs.script_judging.Consoles.{Asked, act_of, answer_after, calls, keeps, status_of}
unfoldable pub use Rattle.script_running.specs.script_judging.Consoles.{ConsoleHeeds}
pub use Rattle.script_running.specs.script_judging.Hearing.{LinesAreJudged, changes, gives, read, said_of, spoken}
pub use Rattle.script_running.specs.script_judging.Judging.{Answers, Judges, Obeys, answer_text, counted, no_lines, one_line}
pub use Rattle.solid_listing.proofs.TellingLaws.{Breaks, Breaks-after, Gathers-nil, Gathers-trans, all_out, released, went_out}
pub use Rattle.solid_measure.specs.Measure.{answer, counts, face_refusal, is_flat, plane_of, six_volume, solid_refusal}
pub use Rattle.std.proofs.Common.{Bool, Err, IfErr, IfOk, List, None, Ok, OnOk, Option, Result, Some, [], ap, append-nil, append_assoc, arith, codes, false, if◌then◌else◌, inl, inr, length, length-append, nat_lt, refl, subst, suc, sym, true, ℕ, ◌&&◌, ◌++◌, ◌+◌, ◌<◌, ◌==◌, ◌∙◌, ◌∷◌, ◌≡◌, ◌≤◌, ◌⊎◌}
pub use Rattle.std.proofs.KnownBytes.{Appends-kept, Appends-nil, Consumes-nil}
pub use Rattle.std.proofs.lemmas.Bool.{and_from, and_parts, both_ways, cases_Bool, false_from_ne_true, false≢true, not-false, not-true, not_from_false, not_from_true}
pub use Rattle.std.proofs.lemmas.Bool.Decides.{nat_tests}
pub use Rattle.std.proofs.lemmas.Result.{err_from_is_err_and}
pub use Rattle.undo_journal.proofs.Journals.{same_machine}
