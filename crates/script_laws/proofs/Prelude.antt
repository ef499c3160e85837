-- What the proofs here take from elsewhere, passed on from one place. Declares nothing.
pub use Rattle.commands.specs.Telling.{TellsSession, asked, value_or_refusal}
pub use Rattle.call_types.specs.declared.command.Change.{Change}
pub use Rattle.call_types.specs.declared.command.Command.{Command}
pub use Rattle.call_types.specs.declared.command.Question.{Question}
pub use Rattle.solid_listing.specs.declared.told.Told.{Told}
pub use Rattle.convex_laws.specs.Convex.{BuiltHaveVolume, IsBuilt, block_made, redone, solid_split, started, undone}
pub use Rattle.euler_operators.specs.Common.{Edge, Face, Has, Kind, Loop, LoopContent, Model, Plane, Point, Solid, Sound, Vertex, cycle, direction, dot, is_number, lone, rings_of}
unfoldable pub use Rattle.euler_operators.specs.Common.{after, arc, canonical, code, conditions, content, edge_of, effect, empty_model, face_of, first_false, half, has_rings, holds, is_first, loop_of, mate, mev_at, mev_lone, mvfs, outer, point_of, rest, rotate_to, solid_of, tail}
pub use Rattle.euler_operators.specs.declared.Refusal.{Refusal}
pub use Rattle.euler_operators.specs.declared.Why.{Why}
pub use Rattle.euler_operators.specs.declared.Why.TheVariants.{NoSolid, NumberRange}
pub use Rattle.plane_split.specs.Machine.{plane_with, split, split_refusal}
pub use Rattle.script_laws.specs.Laws.{AnsweredSo, AnswersStay, BlockLinesSpell, BlocksAndSplitsHaveVolume, BlocksMeasure, BrokenRunsTell, EqualListingsGoOnAlike, FailedRunsTell, FaultsTell, Fits, GluesMeasure, IsWritten, OthersCanBeLeftOut, OthersMayHaveNone, PartsShareVolumes, RefusalsTell, RepliesTell, RunsAnswer, RunsTell, SomeUndosLeadBack, SplitLinesSpell, SweepsMeasure, UndoAndRedoCanBeLeftOut, UndoneLinesCanBeLeftOut, UndosLeadBack, VolumeLinesSpell, VolumesArePositive, WrittenVolumesArePositive, volume_answer}
pub use Rattle.script_laws.specs.Scripts.{Adds, Answered, AsksForChange, EndsLine, HasNo, IsBlockOrSplit, IsTakenBack, OnlyBlocksAndSplits, TextAnswers, count_lines, ended, oks, times}
unfoldable pub use Rattle.script_laws.specs.Scripts.{answers}
pub use Rattle.script_reader.proofs.LineLaws.{line_ok, ok_line}
pub use Rattle.script_reader.proofs.LinesOf.{first_line}
pub use Rattle.script_reader.proofs.NewlineLaws.{Lacks-append}
pub use Rattle.script_reader.specs.Grammar.{build, kinds_of, request_of, word_of}
unfoldable pub use Rattle.script_reader.specs.Grammar.{arguments}
pub use Rattle.script_reader.specs.Lines.{lines_of}
unfoldable pub use Rattle.script_reader.specs.Lines.{within_limit}
pub use Rattle.script_reader.specs.Newline.{Lacks, has_newline}
pub use Rattle.script_reader.specs.Polygon.{over}
pub use Rattle.script_reader.specs.Spelling.{HasNoGap, IsAscii, IsAtGap, IsParted, SaysInteger, SaysNumber, Spells, WordsSpell}
pub use Rattle.script_reader.specs.Words.{words}
pub use Rattle.script_reader.specs.declared.command.Fault.{Fault}
pub use Rattle.script_reader.specs.declared.command.Request.{Request}
pub use Rattle.script_running.proofs.Outputs.{judges_so, judges_to}
pub use Rattle.script_running.specs.Histories.{HasHistory, HistoriesMakeConsistent, LinesLeadOn}
pub use Rattle.script_running.specs.Laws.{AsksFor, asked_for}
pub use Rattle.script_running.specs.Output.{answered, given, moved, obeyed, output_from, output_of}
unfoldable pub use Rattle.script_running.specs.Output.{answer_of, machine_after}
pub use Rattle.solid_listing.specs.declared.told.Told.TheVariants.{Done, Listing}
pub use Rattle.script_running.specs.declared.script_judging.judging.Summary.{Summary}
pub use Rattle.script_running.specs.script_judging.Judging.{Answers, Judges, Obeys, answer_text, one_line}
unfoldable pub use Rattle.shapes.specs.Common.{boundary, corners, lamina_conditions, lamina_model, loops_of, normal, prism_conditions, prism_model, raised, taken_in, with_side}
pub use Rattle.solid_listing.specs.Lines.{line_text, spaced, text_of}
pub use Rattle.solid_listing.specs.Listing.{content_words, half_word, kind_lines, kinds, line, numbers_of, or_empty}
unfoldable pub use Rattle.solid_listing.specs.Listing.{lines, listing}
pub use Rattle.solid_listing.specs.Replies.{line_if_any, reply_words, tally_words}
unfoldable pub use Rattle.solid_listing.specs.Replies.{reply_text}
pub use Rattle.solid_measure.specs.Measure.{answer, counts, face_refusal, solid_refusal}
unfoldable pub use Rattle.solid_measure.specs.Measure.{is_flat, plane_of, six_volume}
pub use Rattle.std.proofs.Common.{Bool, Err, IfOk, List, None, Ok, Option, Result, Some, [], ap, append-nil, append_assoc, arith, bytes_eq, codes, cond, decimal, false, flat_map, inl, inr, int_lt, is_some, length, length-append, map, nat_eq, nat_lt, neg_ℤ, negsuc, pos, refl, subst, suc, sym, take_all, true, true≢false, zero, ℕ, ℤ, ◌%◌, ◌&&◌, ◌*ℤ◌, ◌*◌, ◌++◌, ◌+ℤ◌, ◌+◌, ◌-◌, ◌/◌, ◌<◌, ◌==◌, ◌^◌, ◌↔◌, ◌∙◌, ◌∷◌, ◌≡◌, ◌≢◌, ◌≤◌, ◌⊎◌}
pub use Rattle.std.proofs.lemmas.Bool.{and_from, cases_Bool, false≢true}
pub use Rattle.std.proofs.lemmas.Bool.Decides.{nat_tests}
pub use Rattle.std.proofs.lemmas.Fmt.{decimal_is_IsNumeral, decimal_is_IsNumeral_wide, decimal_nonempty, length-decimal-le, length_signed_le}
pub use Rattle.std.proofs.lemmas.List.{append_cancel_left}
pub use Rattle.std.specs.Fmt.{digit_glyph, digits_onto, signed_decimal}
unfoldable pub use Rattle.std.specs.Fmt.{digits}
pub use Rattle.std.specs.List.{AllByRecursion, onto_first}
pub use Rattle.std.specs.Str.Parse.{AllDigits, digits_value}
pub use Rattle.sweeps.specs.Machine.{block, block_refusal, sweep, sweep_refusal}
pub use Rattle.undo_journal.specs.Journal.{Journal, new_journal}
pub use Rattle.undo_journal.specs.Machine.{Machine, held, redo, redo_refusal, start, undo, undo_refusal}
