-- What the proofs here take from elsewhere, passed on from one place. Declares nothing.
pub use Rattle.euler_conditions.specs.Answer.{answer}
pub use Rattle.euler_conditions.specs.Ends.{leads_to, lesser}
pub use Rattle.euler_conditions.specs.Parts.{AreFacesOf, FaceLeadsOut, FaceStaysIn, StaysIn, parts_known}
pub use Rattle.euler_laws.proofs.Common.{Fan, Round, above_middle, all_hold, all_hold-back, all_listed, all_where-rises, below_middle, face_there, faces_known-there, fan_of, first_listed, first_where_least, half_after, half_below, half_of, halves_of_edge, listed_at, listed_in_solid, listed_passes, no_rings_means, not_found, of_half, outer_or_ring, passes_listed, place_of, short_rises, steps, steps_are, verdict_passed}
pub use Rattle.euler_operators.proofs.Common.{IsIn_push, IsRotation-same, code-half, count-append, count-rotate_to, edge_of-code, edge_of-mate, first_where_zero, holds_in, in-holds, length_below, loop_there, mate-mate, mate_cases, mate_minus, mate_plus, mate_there, minus_row, minus_tail_row, number_fits, number_real, orbit_from, plus_row, plus_tail_row, row_some, same_code, tick_other, tick_same, walk_done, walk_on, walk_over, zero_first_where}
pub use Rattle.euler_operators.specs.Common.{AllHold, At, Condition, Corner, EdgeRow, HalfEdge, Has, HasHalf, IsIn, IsRotation, LoopContent, Model, Sound, after, content, corner_known, corner_lone, corner_loop, corner_number, corner_tail, count, cycle, differ, face_at, face_of, faces_in, faces_known, faces_of, first_refusal, first_where, half, has_half, has_rings, is_bad_part, is_empty, is_number, is_ring_of, items_of, lists, lone, loop_of, mate, minus, need, never, numbers_in_range, orbit, outer, parallel, plus, ring_and_face, rotate_to, round, strictly_rises, tail, torn_edge, verdict, walk_to}
unfoldable pub use Rattle.euler_operators.specs.Common.{code, conditions, edge_of, first_false}
pub use Rattle.euler_operators.specs.declared.Op.TheVariants.{Mekr, Mev, Part}
pub use Rattle.euler_operators.specs.declared.Refusal.{Refusal}
pub use Rattle.euler_operators.specs.declared.Why.TheVariants.{BadPart, DifferentFaces, DifferentLoops, DifferentTails, HasRings, NoSolid, NotRing, SameFace, SameTail, SolidTaken}
pub use Rattle.halfedge_arena.specs.Store.{IsNextRing, Tells, only_item}
pub use Rattle.std.proofs.Common.{Bool, Err, List, None, Ok, Option, Result, Some, [], ap, append_assoc, arith, bit_xor, cond, drop, eq-eqb, eqb-true, false, get_or, inl, inr, is_some, length, length-drop, nat_eq, ne_eqb, not, refl, subst, sym, true, true≢false, ℕ, ◌%◌, ◌&&◌, ◌*◌, ◌++◌, ◌+◌, ◌-◌, ◌/◌, ◌<◌, ◌^◌, ◌||◌, ◌∙◌, ◌∷◌, ◌≡◌, ◌≢◌, ◌≤◌, ◌⊎◌}
pub use Rattle.std.proofs.lemmas.Bool.{and_from, and_parts, eqb-false, false_from_ne_true, not-false, not-true, or_cases, or_left, or_right}
pub use Rattle.std.proofs.lemmas.Bool.Decides.{eqb_tells, nat_tests}
pub use Rattle.std.proofs.lemmas.Result.{err_from_is_err_and}
