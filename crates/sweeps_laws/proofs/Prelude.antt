-- What the proofs here take from elsewhere, passed on from one place. Declares nothing.
pub use Rattle.euler_laws.proofs.Common.{AreAccepted-back, Around, IsLoop, Leads, MefGoes, MevGoes, all_hold, all_where-rises, apart_xs, both_in, canonical_apart, cycle_is, edge_row_plus, effect_keeps_sound, effects_keep_sound, face_is, face_there, first_listed, half_is, leads_first, leads_none, leads_on, leads_one, leads_sound, listed-from_in, listed_cases, listed_passes, lone_accepted, loop_is, loop_row, loop_sound, loops-mef, mef_accepted, mev_accepted, mvfs_accepted, none_refuses, not_lone_cycle, passes_listed, rest_listed, rises_apart, rises_on, rotated_canonical, same_point, same_tail, where_held_none, where_held_there, ◌also◌}
pub use Rattle.euler_laws.specs.Laws.{AreAccepted, effects}
pub use Rattle.euler_operators.proofs.Common.{IsIn-get_or, IsIn_head, IsIn_rest, Linked, add_assoc, add_none, all_where-map, all_where_none, and_first, and_second, apart_front, area_at, at_most_or_above, canonical_same, code-half, content_row, count-append, count-canonical, count-insert_before, dot_moved, dot_origin, dot_turned, edge_of-mate, face_row, first_fails, first_where_zero, fourth_corner, get-put_here, get-put_other, in-holds, in_use_within, item_there, least_with_in, least_with_le, less_still, loop_number, map-put, map_one, map_same, mate_minus, mate_plus, mate_there, minus_row, minus_tail_row, moved_at, moved_ring, nat_eq_itself, no_row, none_add, none_but, not_held, onward_itself, other_loop, outer_row, plus_other, plus_row, plus_tail_row, point_row, put-put, put_turned, rectangle_flat, rectangle_raised, ring_area, rotate_at, rotate_to_head, same_content, same_face, same_outer, same_solid, same_total, second_corner, side_area, side_volume, sides_volume, solid_row, successor_head, sum_first, sum_to, third_corner, three_times, tick_le, tick_other, tick_same, total_to, twice_sum, upto_itself, upto_once, zero_first_where}
pub use Rattle.euler_operators.specs.Common.{AllHold, At, Condition, EdgeRow, FaceRow, Has, HasHalf, IsApart, IsIn, IsInRange, IsPath, IsRing, LoopContent, LoopRow, Model, Point, Sound, Table, content, count, cross, cycle, cycle_of, dot, edge_row, face_at, faces_of, first_false, first_refusal, half, head_or, holds, insert_before, is_coordinate, is_first, is_in_range, is_lone, is_number, items_of, least, lists, lone, lone_vertex, loop_of, map_rows, mate, minus, moved, need, never, no_edge, no_face, no_loop, no_point, numbers_in_range, onward, origin, plus, rings_of, rotate_to, same_table, strictly_rises, successor, tables, tick, upto, with_before, with_tails}
unfoldable pub use Rattle.euler_operators.specs.Common.{after, arc, canonical, code, edge_of, effect, face_of, mef, mev_at, mev_lone, mvfs, outer, point_of, solid_of, tail}
pub use Rattle.euler_operators.specs.declared.Op.TheVariants.{Mef, Mev}
pub use Rattle.shapes.proofs.Common.{all_where-put_last, area-append, area_back, area_kept, area_push, area_same, areas_kept, at_most_greatest, corner_told, dot_back, face_of_loop, get-put_cases, greatest-put_last, greatest_used, left_numbers_hold, loops_of_apart, none_above, none_found, none_is_lone, none_such, number_fits, numbers_are_left, same_is, same_volumes, tail_in, volume_append, volume_of}
pub use Rattle.shapes.specs.Common.{AreFree, AreLeft, Taken, anchor, area, base_of, block_refusal, finish, first_far, first_repeated, first_such, first_vertex, growing, is_flat, items_in, lamina_at, lamina_face, lamina_refusal, least_lone, lifted, negated, next_place, no_such, numbers_after, numbers_left, prism_from, prism_refusal, raised_over, riser, start, top_edge, top_items, vector, vertices_in, vertices_on, volume_in, with_path, with_points, with_ring, with_sides}
unfoldable pub use Rattle.shapes.specs.Common.{block_conditions, block_model, boundary, corners, lamina_conditions, lamina_model, loops_of, normal, prism_conditions, prism_model, raised, six_volume, taken_in, with_side}
pub use Rattle.std.proofs.Common.{Bool, IsTrue, List, None, Option, Some, [], ap, append-nil, append_assoc, arith, cond, drop, eq-eqb, eqb-true, false, get_or, inl, inr, int_le, is_some, leb-true, length, length-append, map, nat_eq, ne_eqb, not, pos, refl, reverse, subst, suc, sym, true, true≢false, unwrap_or, zero, ℕ, ℤ, ◌&&◌, ◌*ℤ◌, ◌*◌, ◌++◌, ◌+ℤ◌, ◌+◌, ◌-ℤ◌, ◌-◌, ◌<◌, ◌||◌, ◌∙◌, ◌∷◌, ◌≡◌, ◌≢◌, ◌≤◌, ◌⊎◌}
pub use Rattle.std.proofs.lemmas.Bool.{not-false, not-true}
pub use Rattle.std.proofs.lemmas.Bool.Decides.{eqb_tells, nat_tests}
pub use Rattle.std.proofs.lemmas.Int.{ints}
pub use Rattle.std.proofs.lemmas.List.{drop_all, drop_more, get_or_append_left, get_or_at, length-map, map-append, reverse-append}
pub use Rattle.sweeps_laws.specs.Laws.{BlockKeepsOthers, BlockMeasures, FlatLaminasMeasureNothing, LaminaKeepsOthers, LaminaMeasures, SweepAdds, SweepKeepsOthers}
pub use Rattle.sweeps_laws.specs.lamina.Laws.{BasesRise, BlocksHaveBases, LaminaIsSound, OperatorsAreAccepted, OperatorsMakeLamina}
pub use Rattle.sweeps_laws.specs.lamina.Path.{back, first_half, first_point, further_points, last_edge, next_point, out, path_content, second_half}
unfoldable pub use Rattle.sweeps_laws.specs.lamina.Path.{lamina_operators, path_at}
pub use Rattle.sweeps_laws.specs.prism.Part.{lifted_part}
unfoldable pub use Rattle.sweeps_laws.specs.prism.Part.{prism_part}
pub use Rattle.sweeps_laws.specs.prism.Ready.{Ready, needed_for_sides}
pub use Rattle.sweeps_laws.specs.prism.SweepOps.{close, close_last, loop_ops, ops_from, raise, raise_item, rounds, taken_after}
unfoldable pub use Rattle.sweeps_laws.specs.prism.SweepOps.{sweep_ops}
