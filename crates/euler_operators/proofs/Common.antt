-- The lemmas of the vocabulary that other crates cite, passed on from one place. Declares nothing.
pub use Rattle.boundary_model.proofs.Closed.{IsPath_last}
pub use Rattle.boundary_model.proofs.Crossings.{cut_back, cut_fits, level_first, level_is, level_on, level_second, not_level, opposite_apart, opposite_back, opposite_turned, same_as, turned_difference, within_coordinate}
pub use Rattle.boundary_model.proofs.Cuts.{IsApart-exchanged, IsIn-cut, apart_joined, apart_split, arc_ring, canonical_from, count-cut, count-joined, onward_itself, onward_other, rest_canonical, ring_split, splice_at, splice_at_other, splice_elsewhere, upto-onward, upto_itself, upto_once, upto_other}
pub use Rattle.boundary_model.proofs.Edits.{IsRing-insert_before, IsRing-without, count-insert_after, count-insert_before, count-without, insert_after-rotates, insert_before-rotates, insert_before_at, insert_before_same, mev_ring_is, without-rotates, without_none}
pub use Rattle.boundary_model.proofs.Halves.{code-half, code-mate, edge_of-code, edge_of-mate, edges_apart, first_is_plus, half-code, half-minus, half-plus, is_first-code, is_first-mate, mate-mate, mate_cases, mate_edge_apart, mate_minus, mate_other, mate_plus, minus_row, plus_other, plus_row, same_code, same_edge}
pub use Rattle.boundary_model.proofs.Integers.{dif-parts, difs, neg-dif, number, same_dif}
pub use Rattle.boundary_model.proofs.Leads.{IsRing-kef, IsRing-kemr, IsRing-led_over_other, IsRing-mef, IsRing-mekr, IsRing-redirect_other, IsRing-splice_other, apart_mev, kev_ring_is}
pub use Rattle.boundary_model.proofs.Lists.{IsIn_or_not, after_at, after_of, before_at, before_of, count-append, count-before, from_is, least_in, least_le, least_same, least_with_in, least_with_le, split_at, tick_le, tick_other, tick_same}
pub use Rattle.boundary_model.proofs.Magnitudes.{coordinate_held, coordinate_is, coordinate_within, coordinates, difference_within, fits, fits_as, held, held_as, held_is, held_short, minor_fits, minor_of, minor_short, minor_within, offset_within, product_within, short_fits, short_is, sum_told, sum_within, vector_within}
pub use Rattle.boundary_model.proofs.Maps.{IsApart-map, count-map, count-reverse, from_map, reverse-cons, reverse_at, successor-map, successor-reverse}
pub use Rattle.boundary_model.proofs.Members.{IsApart-images, IsIn-filter, IsIn-map, IsIn_first, IsIn_one, IsIn_push, IsIn_rest, IsIn_some_head, all_mapped, apart_within, both_empty, count-filter, count_taken, each_mapped, filter_passes, length_below, no_cons, same_head, same_length}
pub use Rattle.boundary_model.proofs.Models.{content_cycle, content_row, cycle_sound, cycle_there, face_row, half_number, held_row, holds-none, holds_in, in-holds, in_no_loop, item_loop, item_there, lone_there, loop_number, loop_there, mate_there, minus_tail_row, minus_there, never_lone, no_tail, none-holds, not_held, number_fits, number_real, one_or_more, other_loop, outer_row, plus_edge, plus_tail_row, plus_there, point_row, row_of, same_content, same_face, same_outer, same_solid, solid_row, tail_row}
pub use Rattle.boundary_model.proofs.Operators.{apart_back, apart_braced, apart_front, apart_left, apart_put, between_canonical, beyond_canonical, kef-mef, kev-mev, mef-kef, mev-kev, put-take, rotate_to_whole, take-put}
pub use Rattle.boundary_model.proofs.Orders.{after_equal, after_greater, equal_is, turned_equal, turned_greater}
pub use Rattle.boundary_model.proofs.Places.{walk_done, walk_on, walk_over}
pub use Rattle.boundary_model.proofs.Rectangles.{fourth_corner, rectangle_flat, rectangle_raised, ring_area, second_corner, third_corner}
pub use Rattle.boundary_model.proofs.Rings.{IsIn_last, IsIn_predecessor, IsIn_successor, IsPath-agree, IsPath-append, IsPath-left, IsPath-right, IsPath-sent, IsPath_at, IsRing-from_successor, IsRing-same, apart_at, count_at, front_of, last_or_push, next_is_successor, orbit_from, orbit_ring, predecessor-successor, predecessor_head, predecessor_same, ring_stays, rotation_at, successor-predecessor, successor_at, successor_head, successor_inner, successor_last, successor_same}
pub use Rattle.boundary_model.proofs.Rotations.{IsApart-canonical, IsApart-rotate_to, IsApart-same, IsIn_head, IsRotation-length, IsRotation-permutation, IsRotation-refl, IsRotation-same, IsRotation-sym, IsRotation-trans, canonical-canonical, canonical-rotate_to, canonical-rotates, canonical_nil, canonical_one, canonical_same, count-canonical, count-rotate_to, head_canonical, length-canonical, length-rotate_to, rest_at, rest_head, rest_parts, rest_same, rotate_at, rotate_to-rotates, rotate_to_canonical, rotate_to_head, rotate_to_is, rotate_to_same}
pub use Rattle.boundary_model.proofs.Std.{AllPairs-from_apart, Contains-from_in, IsIn-get_or, SameItems-from_permutation}
pub use Rattle.boundary_model.proofs.Sweeps.{Linked, area_at, moved_at, moved_ring, same_sum, same_total, side_area, side_volume, sides_volume, sum_first, sum_to, total_to}
pub use Rattle.boundary_model.proofs.Tables.{all_where-map, all_where_none, and_left, and_right, count-all_where, find_here, find_later, first_where_is, first_where_zero, get-put_here, get-put_other, get-remove_here, get-remove_other, greatest-map, in_use_within, less_means, map-put, map_alike, map_one, map_same, no_row, none_all_where, passes, put-put, put-remove, put_same, put_turned, remove-put, remove_turned, row_elsewhere, row_some, two_undone, zero_first_where}
pub use Rattle.boundary_model.proofs.Tests.{and_false, and_first, and_second, at_most_or_above, beq_itself, beq_true, first_fails, less_or_same, less_still, nat_eq_itself, nat_eq_turned, none_but, not_or_fails, number_tied, or_false, or_true, same_truth}
pub use Rattle.boundary_model.proofs.Vectors.{add_assoc, add_exchanged, add_none, dot_moved, dot_origin, dot_sum, dot_turned, moved_none, moved_twice, none_add, none_added, none_moved, same_vector, three_times, twice_sum}
pub use Rattle.boundary_model.proofs.Vertices.{vertex_kef_first, vertex_kef_other, vertex_kef_second, vertex_kev, vertex_kev_other, vertex_mef_first, vertex_mef_other, vertex_mef_second, vertex_mev, vertex_mev_other}
