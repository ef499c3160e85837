-- What the proofs here take from elsewhere, passed on from one place. Declares nothing.
pub use Rattle.euler_conditions.proofs.Known.{mate_edge_there}
pub use Rattle.euler_conditions.proofs.Solids.{one_face}
pub use Rattle.euler_conditions.specs.Ready.{Accepts, AllRoom, HasRoomFor, IsReady, after, made}
pub use Rattle.euler_conditions.specs.Store.{Extents, HasGrown, IsNextFace, Store, Tells, cut, has_room, is_face_of, join, loose_ring, loosened, only_item, put_face, put_solid, put_vertex, set_face, set_outer, set_solid, take_face, take_loop, take_solid, take_vertex, with_lone, with_loop, within}
unfoldable pub use Rattle.euler_conditions.specs.Store.{clear, cut_loose, cut_to, fill, join_loops, join_loose, loose_key, put_loop, set_tail, take_edge}
pub use Rattle.euler_laws.proofs.Common.{Fan, JoinGoes, KefGoes, KemrGoes, KevGoes, KvfsGoes, MefGoes, MekrHolds, MevGoes, Rewritten, after_first, apart_out, arc_is, content-new, count_gone, count_or_lone, count_out, count_spot, cycle_filled, edge_gone, edge_mapped, effect_keeps_sound, emptied, face-same, face_there, faces_one, fan_killed, fan_of, found_past, half_after, half_cases, half_of, halves_of_edge, inverse_goes, inverse_undoes, join_goes, kef_goes, kemr_goes, kev_goes, kfmrh_goes, kvfs_goes, light, listed_at, lone_goes, lone_is, loop_at, loop_row, loops-mef, m_in, mapped_some, mef_goes, mekr_holds, merge_goes, mev_goes, mev_holds, mfkrh_goes, mixed_first, mixed_second, mvfs_goes, no_zero, none_in_fan, not_m, of_half, outer_goes_so, part_goes, put_in, ring_in_goes, ring_out_goes, same_edges, same_loops, tail_old, tails_of_row, taken_out, touched}
pub use Rattle.euler_laws.proofs.shared.Rows.{content_none}
pub use Rattle.euler_operators.proofs.Common.{IsApart-canonical, IsApart-exchanged, IsApart-rotate_to, IsIn-cut, IsIn_or_not, IsIn_predecessor, IsIn_successor, after_at, all_where_none, and_first, and_left, and_right, apart_at, apart_braced, apart_front, apart_joined, apart_split, before_at, between_canonical, beyond_canonical, both_empty, canonical-rotates, canonical_nil, canonical_one, canonical_same, code-half, content_row, count-all_where, count-append, count-before, count-canonical, count-cut, count-joined, count-rotate_to, count-without, count_at, cycle_sound, cycle_there, edge_of-code, edge_of-mate, face_row, find_here, find_later, first_where_is, front_of, get-put_here, get-put_other, get-remove_here, get-remove_other, half-code, held_row, holds-none, holds_in, in-holds, in_no_loop, is_first-mate, loop_there, map-put, map_one, map_same, mate-mate, mate_cases, mate_minus, mate_other, mate_plus, mate_there, minus_row, nat_eq_itself, next_is_successor, no_cons, no_row, none_all_where, number_fits, number_real, onward_other, or_false, or_true, passes, plus_row, predecessor-successor, put-put, put_same, put_turned, rest_at, rest_canonical, rest_head, rest_parts, rest_same, ring_split, rotate_at, rotate_to-rotates, rotate_to_head, rotate_to_is, rotate_to_same, rotate_to_whole, rotation_at, row_elsewhere, row_of, row_some, same_content, same_face, same_length, split_at, tick_le, tick_other, tick_same, upto_itself, upto_once, upto_other, without_none}
pub use Rattle.euler_operators.specs.Common.{At, Corner, Edge, EdgeRow, Face, FaceRow, HalfEdge, Has, HasHalf, IsApart, IsIn, IsRing, Kind, Lone, Loop, LoopContent, LoopRow, Model, NumbersFit, Point, Solid, Sound, StandsIn, Table, Vertex, all_in, arc, between, beyond, canonical, corner_known, corner_list, corner_lone, corner_loop, corner_of, corner_tail, count, cut_left, cut_right, cycle, cycle_of, cycle_or_lone, edge_row, face_at, face_to_outer, faces_of, faces_to_solid, first_false, get-map_rows, get-put, half, has_half, head_or, head_or_zero, holds, insert_before, is_first, is_lone, is_number, items_of, joined, kev_corner, kev_corner_mate, last_or, lists, lone, lone_vertex, loop_to_face, map_rows, mate, mef_new, mef_old, minus, no_edge, no_face, no_loop, plus, point_of, predecessor, put, put_ring, remove, rest, round, same_table, successor, tables, tail_in, take_ring, tick, upto, where_held, with_before, with_tails, without}
unfoldable pub use Rattle.euler_operators.specs.Common.{all_where, before, code, content, edge_of, effect, face_of, get, inverse, kef, kemr, kev, kfmrh, kvfs_at, loop_of, mef, mekr, merge, mev_at, mev_lone, mfkrh, mvfs, outer, part, ring_in, ring_out, rotate_to, solid_of, tail, take_outer}
pub use Rattle.euler_operators.specs.declared.Op.{Op}
pub use Rattle.euler_operators.specs.declared.Op.TheVariants.{Kef, Kemr, Kev, Kfmrh, Kvfs, Mef, Mekr, Merge, Mev, Mfkrh, Mvfs, Outer, Part, RingIn, RingOut}
pub use Rattle.low_euler.specs.Room.{AllFit, IsStepped, KeepsRoom, faces_for}
pub use Rattle.low_euler.specs.face_operators.Moving.{moved}
pub use Rattle.low_euler.specs.steps.Steps.{CanTake, IsCorner, IsLoose, IsStanding, IsUnused, LoopsStandApart, kill_edge, make_edge, put_at}
unfoldable pub use Rattle.low_euler.specs.steps.Steps.{put_before, take_out, with_edge, with_tails_at}
pub use Rattle.std.proofs.Common.{Bool, IfOk, IsOk, List, None, OnOk, Option, Result, Some, T, [], ap, append-nil, append_assoc, arith, cond, eq-eqb, eqb-true, false, get_or, inl, inr, is_some, length, nat_cmp, nat_eq, nat_lt, ne_eqb, not, option_map, refl, subst, sym, take, true, true≢false, unwrap_or, ℕ, ◌&&◌, ◌++◌, ◌+◌, ◌-◌, ◌<◌, ◌||◌, ◌∙◌, ◌∷◌, ◌≡◌, ◌≢◌, ◌≤◌, ◌⊎◌}
pub use Rattle.std.proofs.lemmas.Bool.{and_parts, eqb-false, false_from_ne_true}
pub use Rattle.std.proofs.lemmas.Bool.Decides.{eqb_tells, nat_tests}
pub use Rattle.std.proofs.lemmas.Result.{on_ok_weaker}
