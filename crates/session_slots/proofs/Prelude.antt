-- What the proofs here take from elsewhere, passed on from one place. Declares nothing.
pub use Rattle.euler_conditions.proofs.Known.{filled}
pub use Rattle.euler_operators.proofs.Common.{IsRotation-length, IsRotation-refl, code-half, edge_of-code, in-holds, length-rotate_to, mate_there, number_fits, number_real, rotate_to-rotates}
pub use Rattle.euler_operators.specs.Common.{HasHalf, IsIn, IsRotation, after, cycle_of, face_of, items_of, loop_of, outer, rings_of, rotate_to}
unfoldable pub use Rattle.euler_operators.specs.Common.{content}
pub use Rattle.session_slots.specs.Common.{Console, Content, EdgeRow, HalfEdge, IsItemOf, IsNextNumber, IsStart, IsStartOf, IsStartWithin, Kind, Loan, LoopContent, LoopRow, Model, Moves_faces, Op, Opened, Refusal, Slot, Solid, Sound, Stage, Store, Tells, Told, act_of, answer, answer_after, asked_unless, code, cycle, face_refusal, has, has_half, kept_owns, lent_owns, lone, minus, no_loop, part_asked, part_of, plus, polygon_of, shown, solid_of, store_of, tail, token, told_of}
unfoldable pub use Rattle.session_slots.specs.Common.{ConsoleHeeds, edge_of}
pub use Rattle.session_slots.specs.Reading.{AreHalfEdges, AreRound, AreRows, AreTold, row_of}
pub use Rattle.session_slots.specs.Written.{WritesFrom, WritesOne, laid_at, laid_over}
pub use Rattle.shapes.proofs.Common.{different_items, halves_short, loops_of_apart}
pub use Rattle.solid_listing.proofs.Contents.{told_there}
pub use Rattle.solid_walks.proofs.face_walks_laws.CycleWalks.{comes_back, cycle_apart, goes_on, item_in, item_there, same_loop, start_is, to_come}
pub use Rattle.solid_walks.proofs.face_walks_laws.HalfCodes.{code_plus, coded, edge_fits, mate_plus, plus_there}
pub use Rattle.std.proofs.Common.{Err, IsSome, List, None, Ok, Option, Some, [], ap, append-nil, append_assoc, arith, cond, false, get_or, inl, inr, is_some, length, length-append, map, map-id, refl, slice_set, subst, suc, sym, true, true≢false, unwrap_or, zero, ℕ, ◌*◌, ◌++◌, ◌+◌, ◌-◌, ◌<◌, ◌∙◌, ◌∷◌, ◌≡◌, ◌≢◌, ◌≤◌, ◌⊎◌}
pub use Rattle.std.proofs.lemmas.Grind.{common_steps}
pub use Rattle.std.proofs.lemmas.List.{length-map, map-append}
