-- What the proofs here take from elsewhere, passed on from one place. Declares nothing.
pub use Rattle.euler_laws.proofs.Common.{AreAccepted-append, CornerAt, IsIn-from_listed, Leads, MekrGoes, MevGoes, Rewritten, RingGoes, SameWalks, after-walks, all_where-rises, all_where_has, all_where_in, back_of, content-new, content_either, count-halves, count-mef_new, count-mef_old, counted_once, edge_row_plus, effect_keeps_sound, effects-append, face-same, face_there, half_after, half_face, halves_of_edge, leads_none, leads_on, leads_one, light, listed-from_in, listed_passes, loop-same, loop_after, loop_row, loops-mef, map_twice, mef_accepted, mekr_accepted, mev_accepted, next_in, no_rings_means, no_zero, none_counted, none_else, none_free, not_false, not_lone_cycle, of_half, point_row, ring_in_accepted, ring_is, sound-ring_in, taken, test_ring, walks, where_held_none, where_held_there, none_in}
pub use Rattle.euler_laws.specs.Laws.{AreAccepted, effects}
pub use Rattle.euler_operators.proofs.Common.{IsApart-images, IsIn-filter, IsIn-map, IsIn_head, IsIn_one, IsIn_or_not, IsIn_rest, IsIn_some_head, IsIn_successor, IsRing-led_over_other, IsRing-mef, IsRing-mekr, IsRing-splice_other, IsRotation-sym, IsRotation-trans, add_assoc, all_mapped, and_false, apart_front, canonical-rotates, canonical_same, code-half, content_cycle, content_row, count-append, count-canonical, count-filter, count-insert_after, count-insert_before, count-rotate_to, cut_back, cut_fits, cycle_sound, cycle_there, dot_sum, dot_turned, each_mapped, edge_of-code, edge_of-mate, face_row, filter_passes, first_fails, from_is, from_map, get-put_here, get-put_other, get-remove_here, get-remove_other, greatest-map, held_row, holds-none, holds_in, in-holds, insert_after-rotates, insert_before-rotates, item_loop, item_there, level_first, level_is, level_on, level_second, lone_there, loop_there, map_alike, map_one, map_same, mate_minus, mate_plus, mate_there, minus_row, minus_tail_row, minus_there, moved_none, moved_twice, nat_eq_turned, never_lone, next_is_successor, no_row, none-holds, none_moved, not_held, not_level, not_or_fails, opposite_back, opposite_turned, other_loop, outer_row, plus_edge, plus_other, plus_row, plus_tail_row, plus_there, predecessor-successor, put_turned, rotate_to_head, rotate_to_is, rotate_to_same, rotation_at, row_elsewhere, row_of, row_some, same_as, same_content, same_edge, same_face, same_outer, same_solid, solid_row, splice_at, splice_at_other, splice_elsewhere, tick_le, tick_other, tick_same, zero_first_where}
pub use Rattle.euler_operators.specs.Common.{At, EdgeRow, Has, HasHalf, IsApart, IsIn, IsInRange, IsPath, IsRing, IsRotation, LoopContent, LoopRow, Model, Plane, Point, SameItems, Sound, StandsIn, Table, after_mef, after_mev, are_opposite, count, cross, cut_between, cuts_lattice, cycle, cycle_of, differ, direction, dot, edge_of, edge_row, face_at, faces_of, first_false, first_refusal, half, has_half, has_rings, head_or, height, holds, insert_after, insert_before, is_above, is_below, is_first, is_lone, is_number, is_on, is_ring_of, items_of, lists, lone, loop_of, loop_to_face, mate, mef_new, mef_old, mekr_ring, minus, moved, no_edge, no_face, no_point, onward, opposite, origin, plus, rest, rings_of, same_point, same_table, successor, tables, tail_in, tick, upto, with_before, with_tails}
unfoldable pub use Rattle.euler_operators.specs.Common.{after, arc, before, canonical, content, effect, face_of, mef, mekr, mev_at, outer, point_of, ring_in, rotate_to, solid_of, tail}
pub use Rattle.euler_operators.specs.Table.{get-map_rows}
pub use Rattle.euler_operators.specs.declared.Op.{Op}
pub use Rattle.euler_operators.specs.declared.Op.TheVariants.{Mev, RingIn}
pub use Rattle.shapes.proofs.Common.{AreHalves, anchor_on, are_on, area-append, area_kept, area_same, at_most_greatest, count-sorted, cross_back, different_items, face_of_loop, free_above, greatest-put_last, greatest_is, greatest_used, halves_cancel, items_counted, items_there, length-in_pairs, length-sorted, list_parts, listed_ring, loops_of_apart, moved_back, moved_turned, none_above, none_is_lone, none_such, number_fits, plane_told, ring_listed, rings_rise, rising_one, same_volumes, told_anywhere, total, total_same, unchanged, volume_is, volume_of}
pub use Rattle.shapes.proofs.split.Facts.{Cuttable, needed_for_rewritings, split_begins}
pub use Rattle.shapes.specs.Common.{AreFree, AreLeft, Drawing, FacePairs, Growing, Needed, Taken, all_cut, all_drawn, all_joined, all_pairs, anchor, area, crosses, crossing_edges, draw_edge, draw_pair, drawn_between, edges_of, faces_drawn, finish, first_conditions, first_vertex, from_place, goes_up, growing, in_one_loop, in_pairs, is_plane_of, is_up_and_down, items_in, join_edge, join_pair, loop_is_cut, negated, pair_count, plane_through, reaches_above, reaches_below, rewritten, rewritten_row, ring_free, rings_above, rings_shared, some_above, some_meet, sorted, sorted_in, start, straddling_faces, straddling_pairs, stuck_at, undrawn, up_first, vertices_in, vertices_on, volume_in, with_rings}
unfoldable pub use Rattle.shapes.specs.Common.{boundary, corners, draw_next, drawn_pairs, is_crossed, is_cut_often, is_flat, is_place, is_touched, join_next, loops_of, next_cut, next_drawn, normal, place_pairs, place_point, places, plane_of, six_volume, sorted_pairs, straddles, taken_in, with_crossings, with_drawings}
pub use Rattle.solid_measure_laws.proofs.Cuts.{cut_keeps_area, cut_on, cut_on_each}
pub use Rattle.split_drawing_laws.specs.crossings.AtPlace.{AtPlace}
unfoldable pub use Rattle.split_drawing_laws.specs.crossings.CrossingOps.{crossing_ops}
pub use Rattle.split_drawing_laws.specs.crossings.Kept.{Kept}
pub use Rattle.split_drawing_laws.specs.crossings.Laws.{CanBegin}
pub use Rattle.split_drawing_laws.specs.drawings.DrawingOps.{draw_ops, drawn_ops, face_ops, join_ops, ops_from, ring_ops, share_ops}
unfoldable pub use Rattle.split_drawing_laws.specs.drawings.DrawingOps.{drawing_ops}
pub use Rattle.split_drawing_laws.specs.drawings.DrawnIn.{AreFreeForPairs, AreLeftForPairs, DrawnIn, JoinedIn, Stays}
pub use Rattle.split_drawing_laws.specs.drawings.Laws.{CanBeDrawn}
pub use Rattle.split_drawing_laws.specs.drawings.Pairs.{AllFit, AllOf, FacesFit, Fits, LoneInOneLoop, pairs_in}
pub use Rattle.split_drawing_laws.specs.drawings.Passing.{Drawable, Going, Joining, Ready}
pub use Rattle.split_drawing_laws.specs.half_sides.HalfSides.{half_is_above}
unfoldable pub use Rattle.split_drawing_laws.specs.half_sides.HalfSides.{is_own, side_of}
pub use Rattle.split_drawing_laws.specs.loop_sides.Laws.{TakeSides}
pub use Rattle.split_drawing_laws.specs.loop_sides.Parted.{AllCross, Crosses, FacesCross, LiesOn, Open, Parted, Sided, all_ends, ends}
pub use Rattle.split_drawing_laws.specs.tables.Doubled.{Cut, cuts_from, doubled_at, doubled_in, with_cut_point, with_two_edges}
unfoldable pub use Rattle.split_drawing_laws.specs.tables.Doubled.{crossings_doubled, edges_doubled}
pub use Rattle.std.proofs.Common.{Bool, IsTrue, List, None, Option, Some, [], ap, append-nil, append_assoc, arith, cond, eq-eqb, eqb-true, false, filter, flat_map, fold, inl, inr, int_eq, int_lt, is_some, length, length-append, map, nat_cmp, nat_eq, nat_lt, ne_eqb, neg_ℤ, not, option_map, pos, refl, subst, suc, sym, true, true≢false, unwrap_or, ℕ, ℤ, ◌&&◌, ◌*◌, ◌++◌, ◌+ℤ◌, ◌+◌, ◌-ℤ◌, ◌-◌, ◌/◌, ◌<◌, ◌==◌, ◌||◌, ◌∙◌, ◌∷◌, ◌≡◌, ◌≢◌, ◌≤◌, ◌⊎◌}
pub use Rattle.std.proofs.lemmas.Bool.{and_parts, eqb-false, false_from_ne_true, not-false, not-true, or_right}
pub use Rattle.std.proofs.lemmas.Bool.Decides.{eqb_tells, nat_tests}
pub use Rattle.std.proofs.lemmas.Int.{ints}
pub use Rattle.std.proofs.lemmas.List.{length-map}
pub use Rattle.std.specs.List.{list_all, list_any}
