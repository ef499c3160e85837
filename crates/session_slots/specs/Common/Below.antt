-- The definitions of the crates below that are cited here, and the types of this crate, passed on from one place. Declares nothing.
pub use Rattle.commands.specs.Telling.{Tells, asked, redos, shown, steps_in, told_of, undos}
pub use Rattle.call_types.specs.declared.command.{Call.Call, Change.Change, Command.Command, Question.Question}
pub use Rattle.solid_listing.specs.declared.told.Told.{Told}
pub use Rattle.commands.specs.declared.stage.Stage.{Stage}
pub use Rattle.euler_conditions.specs.Store.{IsNextFace, IsNextNumber, IsNextRing, Store, empty_store}
pub use Rattle.euler_operators.specs.Common.{Content, Corner, HalfEdge, IsIn, IsRotation, Kind, LoopContent, LoopRow, Model, Plane, Point, Solid, Sound, cycle, cycle_of, has, has_half, items_of, lone, minus, no_loop, plus}
unfoldable pub use Rattle.euler_operators.specs.Common.{after, before, code, content, edge_of, face_of, half, loop_of, outer, point_of, solid_of, tail}
pub use Rattle.euler_operators.specs.declared.{Op.Op, Refusal.Refusal}
pub use Rattle.script_running.specs.declared.script_judging.calls.Console.{Console}
pub use Rattle.script_running.specs.script_judging.Consoles.{Asked, Heeds, IsNew, act_of, answer_after, calls, keeps, status_of}
unfoldable pub use Rattle.script_running.specs.script_judging.Consoles.{ConsoleHeeds}
pub use Rattle.script_running.specs.script_judging.Hearing.{gives, spoken}
pub use Rattle.session_slots.specs.declared.answers.{Counts.Counts, PlaneRow.PlaneRow, Refused.Refused, Wide.Wide}
pub use Rattle.session_slots.specs.declared.cycles.HalfEdgeRow.{HalfEdgeRow}
pub use Rattle.session_slots.specs.declared.readers.{EdgeRow.EdgeRow, FaceRow.FaceRow, Place.Place}
pub use Rattle.session_slots.specs.declared.slot.Slot.{Slot}
pub use Rattle.shapes.specs.Common.{Taken}
unfoldable pub use Rattle.shapes.specs.Common.{loops_of, taken_in}
pub use Rattle.solid_measure.specs.Measure.{answer, face_refusal}
pub use Rattle.solid_walks.specs.Counters.{taken_of}
pub use Rattle.solid_walks.specs.declared.numbers.Counters.{Counters}
pub use Rattle.undo_journal.specs.Journal.{new_journal}
