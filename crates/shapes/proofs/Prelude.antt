-- What the proofs here take from elsewhere, passed on from one place. Declares nothing.
pub use Rattle.euler_laws.proofs.Common.{IsIn-from_listed, IsLoop, all_hold, all_hold-front, all_where-rises, count_up_to, counted_once, empty_is, face_in, face_there, first_listed, first_passes, first_where_least, half_below, half_in, halves_of_edge, in_faces, items_apart, light, listed-from_in, listed_as, listed_cases, listed_passes, listed_up_to, loop_row, loop_sound, no_items, no_rings_means, none_counted, none_refuses, not_lone_cycle, one_solid_round, outer_or_ring, passes_listed, rest_listed, ring_number, ring_there, steps, steps_are, up_to, up_to_none, within}
pub use Rattle.euler_operators.proofs.Common.{IsApart-same, IsIn-map, IsIn_first, IsIn_head, IsIn_or_not, IsIn_predecessor, IsIn_rest, IsIn_successor, IsRing-same, IsRotation-length, IsRotation-same, SameItems-from_permutation, add_assoc, add_exchanged, and_first, and_left, and_right, apart_at, canonical-rotates, canonical_same, content_row, coordinate_within, count-append, count-before, count-canonical, count-reverse, count_taken, cycle_there, dif-parts, difs, dot_turned, face_row, first_fails, from_map, front_of, get-remove_here, get-remove_other, in-holds, length_below, loop_number, loop_there, mate-mate, mate_other, mate_there, minus_row, minus_tail_row, moved_none, moved_twice, nat_eq_itself, nat_eq_turned, neg-dif, next_is_successor, no_cons, none_add, none_moved, number, offset_within, or_true, plus_row, plus_tail_row, predecessor-successor, remove_turned, rest_parts, rest_same, reverse-cons, reverse_at, rotation_at, row_some, same_as, same_dif, same_edge, same_vector, split_at, successor-map, successor-predecessor, successor-reverse, successor_inner, successor_last, successor_same, tick_other, tick_same, zero_first_where}
pub use Rattle.euler_operators.specs.Common.{AllHold, Condition, EdgeRow, Has, HasHalf, IsApart, IsCutPlane, IsCycle, IsIn, IsPath, IsRing, IsRotation, LoopContent, LoopRow, Model, Plane, Point, SameItems, Sound, StandsIn, Table, all_in, canonical, content, count, cross, cuts_lattice, cycle, cycle_of, direction, dot, edge_of, face_at, faces_of, first_refusal, first_where, greatest_in, head_or, height, holds, is_lone, is_number, is_on, is_ring_of, items_of, last_or, lists, lone, loop_of, mate, moved, no_edge, no_loop, origin, outer, plus, point_of, predecessor, rest, rings_of, same_point, same_table, solid_of, strictly_rises, successor, tables, tail, tail_in, tick}
unfoldable pub use Rattle.euler_operators.specs.Common.{after, face_of, has_rings}
pub use Rattle.euler_operators.specs.Items.{before}
pub use Rattle.shapes.specs.Common.{AreLeft, Drawing, Needed, Taken, anchor, area, below_halves, corners_in, crossing_edges, face_conditions, faces_above, faces_of_both, finish, first_such, first_vertex, found, fresh_edge, glue_refusal, has_repeats, has_stray_hole, in_pairs, is_crossed, is_cut_often, is_plane_of, is_rotation, is_touched, is_turned, items_in, later_conditions, least_branched, least_lone, loops_in, negated, numbers_left, outline, pair_count, paired, partner, plane_in_range, plane_through, reaches_above, reaches_below, renamed, renamed_tails, rewritten, rewritten_row, rim, same_points, scaled, section_cycles, section_ends, sorted, sorted_in, split_refusal, start, straddling_faces, towards, vertices_in, vertices_on, volume_in, with_drawings, without_rows}
unfoldable pub use Rattle.shapes.specs.Common.{boundary, corners, early_glue_conditions, early_split_conditions, first_conditions, first_edge, glue_conditions, is_flat, leads, loops_of, normal, plane_of, section_conditions, split_conditions, taken_in}
pub use Rattle.std.proofs.Common.{Bool, IsTrue, List, None, Option, Some, T, [], ap, append-nil, append_assoc, arith, cond, drop, eq-eqb, eqb-true, false, inl, inr, is_lt, is_some, le-leb, length, map, nat_cmp, nat_eq, ne_eqb, neg_ℤ, not, option_map, pos, refl, reverse, subst, suc, sym, take, take-append-drop, true, true≢false, unsigned_abs, unwrap_or, zero, ℕ, ℤ, ◌&&◌, ◌*ℤ◌, ◌*◌, ◌++◌, ◌+ℤ◌, ◌+◌, ◌-ℤ◌, ◌/◌, ◌<◌, ◌||◌, ◌∙◌, ◌∷◌, ◌≡◌, ◌≢◌, ◌≤◌, ◌⊎◌}
pub use Rattle.std.proofs.lemmas.Bool.{and_parts, eqb-false, not-false, not-true, or_cases, or_left, or_parts, or_right}
pub use Rattle.std.proofs.lemmas.Bool.Decides.{eqb_tells, nat_tests}
pub use Rattle.std.proofs.lemmas.Int.{ints, unsigned_abs-mul}
pub use Rattle.std.proofs.lemmas.List.{drop-map, map-append, reverse-append, reverse-reverse, take-map}
pub use Rattle.std.specs.Cmp.{signed_Decides, unsigned_tied}
pub use Rattle.std.specs.List.{list_all, list_any}
