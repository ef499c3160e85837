-- What the proofs here take from elsewhere, passed on from one place. Declares nothing.
pub use Rattle.euler_conditions.specs.Store.{IsNextFace, IsNextRing, Tells, is_face_of}
pub use Rattle.euler_laws.proofs.Common.{Fan, all_where-rises, fan_of, first_listed, half_below, listed-from_in, listed_as, listed_passes, loop_after, outer_or_ring, rest_listed, rises_apart, rises_on, steps, steps_are, up_to_all, up_to_next}
pub use Rattle.euler_operators.proofs.Common.{IsApart-rotate_to, IsIn_predecessor, IsIn_push, IsIn_successor, IsPath-left, IsPath_at, IsRing-same, after_of, and_false, and_first, and_second, at_most_or_above, before_of, beq_itself, beq_true, code-mate, count-append, count-before, count-rotate_to, count_at, cycle_sound, cycle_there, edge_of-code, edge_of-mate, front_of, held_row, in-holds, least_in, least_le, length_below, mate-mate, mate_there, nat_eq_itself, nat_eq_turned, number_real, one_or_more, or_false, predecessor-successor, rotate_to-rotates, rotate_to_is, rotation_at, same_code, same_truth, split_at, successor_at, successor_same, tick_other, tick_same}
pub use Rattle.euler_operators.specs.Common.{Content, FaceRow, HalfEdge, Has, HasHalf, IsApart, IsIn, IsPath, LoopContent, LoopRow, Model, Sound, StandsIn, Table, all_in, count, cycle, cycle_of, faces_of, first_in, get, has, has_half, head_or, is_lone, is_ring_of, items_of, last_or, least, lists, lone, loop_of, mate, minus, no_face, no_loop, numbers, outer, plus, predecessor, rest, rings_of, rotate_to, round, strictly_rises, successor, tail, tick}
unfoldable pub use Rattle.euler_operators.specs.Common.{all_where, before, canonical, code, content, edge_of, face_of, first_where, solid_of}
pub use Rattle.shapes.proofs.Common.{face_listed, face_number, face_of_loop, faces_rise, faces_to, greatest_is, leads_false, leads_true, listed_face, listed_ring, loops_to, ring_listed, rings_rise}
pub use Rattle.shapes.specs.Common.{faces_of_both, first_such, found, leads, least_lone, start}
unfoldable pub use Rattle.shapes.specs.Common.{loops_of, taken_in}
pub use Rattle.solid_walks.specs.Least.{least_such, lesser, only}
pub use Rattle.solid_walks.specs.Left.{items_left, loops_left}
pub use Rattle.std.proofs.Common.{Bool, List, None, Option, Some, [], ap, append_assoc, arith, cond, eq-eqb, eqb-true, false, find, fold, inl, inr, is_some, length, length-append, map, min, nat_eq, nat_le, ne_eqb, not, of_calls, refl, rules, subst, sym, tests, true, true≢false, unwrap_or, ℕ, ◌&&◌, ◌++◌, ◌+◌, ◌-◌, ◌/◌, ◌<◌, ◌||◌, ◌∙◌, ◌∷◌, ◌≡◌, ◌≢◌, ◌≤◌, ◌⊎◌}
pub use Rattle.std.proofs.lemmas.Bool.{and_parts, or_left, or_right}
pub use Rattle.std.proofs.lemmas.Bool.Decides.{eqb_tells, nat_tests}
pub use Rattle.std.proofs.lemmas.Iterator.Consumers.{YieldsList-from_first, fold_from_yields_List, map_from_collect}
