-- The words of the crates below that the files here cite, passed on from one place. Declares nothing.
pub use Rattle.commands.specs.Calls.{IsCall}
pub use Rattle.commands.specs.Changes.{made, operators_of, refusal_of}
pub use Rattle.commands.specs.Telling.{LeavesRecord, Settled, TellsSession, asked, told_of, told_of_move, value_or_refusal}
pub use Rattle.call_types.specs.declared.command.Call.TheVariants.{Give}
pub use Rattle.call_types.specs.declared.command.Command.TheVariants.{Ask, Change, Redo, Undo}
pub use Rattle.call_types.specs.declared.command.Command.{Command}
pub use Rattle.call_types.specs.declared.command.Question.{Question}
pub use Rattle.commands.specs.declared.stage.Stage.TheVariants.{Drafting, Session}
pub use Rattle.commands.specs.declared.stage.Stage.{Stage}
pub use Rattle.euler_operators.specs.Common.{Model, Sound}
pub use Rattle.euler_operators.specs.declared.Refusal.{Refusal}
pub use Rattle.script_reader.specs.Grammar.{is_ascii, request_of, request_of_words}
unfoldable pub use Rattle.script_reader.specs.Grammar.{arguments}
pub use Rattle.script_reader.specs.Lines.{lines_of, with_newlines}
unfoldable pub use Rattle.script_reader.specs.Lines.{within_limit}
pub use Rattle.script_reader.specs.Newline.{Lacks, has_newline}
pub use Rattle.script_reader.specs.Polygon.{over}
pub use Rattle.script_reader.specs.Script.{BreaksOff as EndsEarly, HasRead, to_come}
pub use Rattle.script_reader.specs.State.{IsFresh, line_of, reader_of, taken_of, unread_of}
pub use Rattle.script_reader.specs.declared.command.Fault.TheVariants.{LongLine, NotAscii}
pub use Rattle.script_reader.specs.declared.command.Fault.{Fault}
pub use Rattle.script_reader.specs.declared.command.Request.{Request}
pub use Rattle.script_reader.specs.declared.lines.Found.{Found}
pub use Rattle.script_reader.specs.declared.lines.Lines.{Lines}
pub use Rattle.script_running.specs.declared.running.RunFault.{RunFault}
pub use Rattle.script_running.specs.declared.script_judging.judging.Summary.{Summary}
pub use Rattle.solid_listing.specs.declared.told.Told.TheVariants.{Done, Listing, Refused, Silent}
pub use Rattle.solid_listing.specs.declared.told.Told.{Told}
unfoldable pub use Rattle.solid_listing.specs.Listing.{listing}
pub use Rattle.solid_listing.specs.Replies.{told_text}
pub use Rattle.solid_listing.specs.Writing.{Gathers, Outgoing, Puts, Stops, Tells, outgoing}
pub use Rattle.undo_journal.specs.Histories.{Call, IsConsistent, after_call, after_calls, reached}
pub use Rattle.undo_journal.specs.Journal.{Journal, after_redo, after_undo, new_journal, record_of, recorded}
pub use Rattle.undo_journal.specs.Machine.{Machine, accepted, held, redo, redo_refusal, start, undo, undo_refusal}
