-- What the proofs here take from elsewhere, passed on from one place. Declares nothing.
pub use Rattle.euler_laws.specs.Laws.{AreAccepted, IsAccepted, IsFirstFalse, all_rings, effects, euler_number, growth, inverses, size}
pub use Rattle.euler_operators.proofs.Common.{IsApart-canonical, IsApart-rotate_to, IsIn_or_not, IsIn_predecessor, IsIn_successor, IsPath-agree, IsPath-append, IsPath-left, IsPath-sent, IsRing-from_successor, IsRing-insert_before, IsRing-kef, IsRing-kemr, IsRing-led_over_other, IsRing-mef, IsRing-redirect_other, IsRing-same, IsRing-splice_other, IsRing-without, IsRotation-sym, all_where_none, and_first, and_left, and_right, and_second, apart_at, apart_back, apart_braced, apart_left, apart_mev, apart_put, apart_within, arc_ring, at_most_or_above, between_canonical, beyond_canonical, canonical-canonical, canonical-rotate_to, canonical-rotates, canonical_from, canonical_nil, canonical_same, code-half, content_cycle, content_row, count-append, count-before, count-canonical, count-insert_before, count-rotate_to, count-without, count_at, cycle_sound, cycle_there, edge_of-code, edge_of-mate, edges_apart, face_row, find_here, find_later, first_where_is, first_where_zero, get-put_here, get-put_other, get-remove_here, get-remove_other, held_row, holds-none, holds_in, in-holds, insert_before-rotates, insert_before_same, is_first-mate, item_loop, item_there, kef-mef, kev-mev, kev_ring_is, length_below, less_means, map_one, map_same, mate-mate, mate_cases, mate_edge_apart, mate_minus, mate_other, mate_plus, mate_there, mef-kef, mev-kev, mev_ring_is, minus_row, nat_eq_itself, never_lone, next_is_successor, no_row, no_tail, none_all_where, none_but, not_held, number_fits, or_true, orbit_from, other_loop, outer_row, plus_row, put-remove, put-take, remove-put, rest_same, ring_split, ring_stays, rotate_to-rotates, rotate_to_canonical, rotate_to_head, rotate_to_is, rotate_to_same, rotation_at, row_elsewhere, row_of, row_some, same_content, same_edge, same_face, same_head, same_outer, same_solid, solid_row, split_at, successor-predecessor, successor_at, successor_same, tail_row, take-put, tick_le, tick_other, tick_same, two_undone, upto-onward, upto_once, vertex_kef_first, vertex_kef_other, vertex_kef_second, vertex_kev, vertex_kev_other, vertex_mef_first, vertex_mef_other, vertex_mef_second, vertex_mev, vertex_mev_other, walk_done, walk_on, walk_over, without-rotates, without_none, zero_first_where}
pub use Rattle.euler_operators.specs.Common.{AllHold, At, Condition, Corner, EdgeRow, FaceRow, HalfEdge, Has, HasHalf, IsApart, IsCycle, IsIn, IsInRange, IsLoneAt, IsPath, IsRing, IsRotation, IsTail, Lone, LoopContent, LoopRow, Model, NumbersFit, Point, Reaches, Sound, StandsIn, Table, after_kef, after_kev, after_mef, after_mev, all_in, bare_face, between, beyond, canonical, code, corner_known, corner_list, corner_lone, corner_loop, corner_number, corner_of, corner_tail, count, cycle, cycle_of, cycle_or_lone, differ, edge_row, face_at, face_to_outer, faces_in, faces_known, faces_of, faces_to_solid, first_in, first_refusal, further, get-empty, get-map_rows, half, head_or, head_or_zero, here, insert_before, is_empty, is_lone, is_number, is_ring_of, items_of, kef_ring, kev_corner, kev_corner_mate, kev_ring, led_over, lists, lists_all, lone, lone_vertex, loop_to_face, map_entries, mef_new, mef_old, mev_ring, minus, moved_tail, no_edge, no_face, no_loop, no_point, numbers_in_range, onward, orbit, parallel, plus, predecessor, put_ring, redirect, rest, ring_and_face, rings_of, rotate_to, round, same_table, strictly_rises, successor, tables, tail_in, take_ring, tick, torn_edge, upto, verdict, walk_to, where_held, with_before, with_tails, without}
unfoldable pub use Rattle.euler_operators.specs.Common.{after, all_where, arc, conditions, content, edge_of, effect, empty_model, face_of, first_false, first_where, get, has_rings, holds, inverse, is_first, kef, kemr, kev, kfmrh, kvfs_at, loop_of, map_rows, mate, mef, mekr, merge, mev_at, mev_lone, mfkrh, mvfs, outer, part, point_of, put, remove, ring_in, ring_out, solid_of, tail, take_outer}
pub use Rattle.euler_operators.specs.declared.Op.{Op}
pub use Rattle.euler_operators.specs.declared.Op.TheVariants.{Kef, Kemr, Kev, Kfmrh, Kvfs, Mef, Mekr, Merge, Mev, Mfkrh, Mvfs, Outer, Part, RingIn, RingOut}
pub use Rattle.std.proofs.Common.{Bool, Err, IsTrue, List, None, Ok, Option, Some, T, [], ap, arith, cond, eq-eqb, eqb-true, false, get_or, inl, inr, is_some, length, lt-ltb, nat_cmp, nat_eq, nat_le, nat_lt, ne_eqb, neg_ℤ, not, option_map, pos, refl, subst, suc, sym, true, true≢false, unwrap_or, zero, ℕ, ◌&&◌, ◌*◌, ◌++◌, ◌+ℤ◌, ◌+◌, ◌<◌, ◌||◌, ◌∙◌, ◌∷◌, ◌≡◌, ◌≢◌, ◌≤◌, ◌⊎◌}
pub use Rattle.std.proofs.lemmas.Bool.{and_parts, eqb-false, not-false, not-true}
pub use Rattle.std.proofs.lemmas.Bool.Decides.{eqb_tells, nat_tests}
pub use Rattle.std.specs.FinMap.Entries.{below_all, find, is_sorted}
