-- The definitions that proofs, contracts and the crates above cite, passed on from one place. Declares nothing.
pub mod Below
pub use Rattle.session_slots.specs.Common.Below.{Told, Asked, Call, Change, Command, Content, Console, EdgeRow, HalfEdge, Heeds, IsNextNumber, IsNew, Kind, LoopContent, LoopRow, Model, Op, Question, Refusal, Slot, Solid, Sound, Stage, Store, Taken, Tells, act_of, answer, answer_after, asked, calls, cycle, cycle_of, face_refusal, gives, has, has_half, items_of, keeps, lone, minus, no_loop, plus, redos, shown, spoken, status_of, steps_in, taken_of, told_of, undos}
unfoldable pub use Rattle.session_slots.specs.Common.Below.{code, content, edge_of, loop_of, solid_of, tail, taken_in}
pub use Rattle.session_slots.specs.Answered.{counts_in, fault_in, joined, joined_plane, plane_in, refusal_in, volume_in}
pub use Rattle.session_slots.specs.Arguments.{polygon_of}
unfoldable pub use Rattle.session_slots.specs.Common.Below.{ConsoleHeeds}
pub use Rattle.session_slots.specs.Opening.{Opened, is_staged, is_whole}
pub use Rattle.session_slots.specs.Owned.{Loan, kept_owns, lent_owns, loan_coded, slot_in, token}
pub use Rattle.session_slots.specs.Parting.{Moves_faces, asked_unless, part_asked, part_of}
pub use Rattle.session_slots.specs.Reading.{AreHalfEdges, AreRows, IsFaceAfter, IsFirst, IsItemOf, IsNumberAfter, IsRingAfter, after_in, before_in, edge_in, face_in, face_of_loop_in, kind_of, lone_in, loop_in, point_in, store_of}
pub use Rattle.session_slots.specs.Slots.{Counts_in, Notes}
pub use Rattle.session_slots.specs.Spokes.{IsStart, IsStartOf, IsStartWithin}
pub use Rattle.session_slots.specs.Written.{WritesOne, laid_over}
pub use Rattle.solid_listing.specs.Replies.{told_text}
