-- The lemmas of this crate that other crates cite, passed on from one place. Declares nothing.
pub use Rattle.euler_laws.proofs.Cases.{effect_keeps_sound, inverse_goes, inverse_undoes}
pub use Rattle.euler_laws.proofs.Growth.{Grown, kemr_grows, mef_grows, mev_grows, mfkrh_grows}
pub use Rattle.euler_laws.proofs.Runs.{AreAccepted-append, AreAccepted-back, AreAccepted-front, Leads, effects-append, effects_keep_sound, inverses_go, inverses_undo, leads_first, leads_none, leads_on, leads_one, leads_sound, next_goes, next_taken, some_taken}
pub use Rattle.euler_laws.proofs.Sizes.{loops_are, rises_apart, rises_on, rises_over, size-map_rows, size-remove}
pub use Rattle.euler_laws.proofs.faces.Kfmrh.{KillGoes, MakeGoes, g_gone, kfmrh_accepted, kfmrh_goes, kill_face_else, kill_face_l, kill_outer, kill_same, kill_solid, l_face, mfkrh_accepted, mfkrh_goes, sound-kfmrh}
pub use Rattle.euler_laws.proofs.faces.RingIn.{RingGoes, ring_in_accepted, ring_in_goes, sound-ring_in}
pub use Rattle.euler_laws.proofs.faces.RingOut.{outer_goes_so, ring_out_goes}
pub use Rattle.euler_laws.proofs.faces.Solids.{KvfsGoes, faces_one, kvfs_goes, mvfs_accepted, mvfs_goes}
pub use Rattle.euler_laws.proofs.kemr.Kemr.{CornerAt, MekrGoes, corner_here, kemr_goes, mekr_accepted}
pub use Rattle.euler_laws.proofs.kemr.KemrSound.{KemrGoes}
pub use Rattle.euler_laws.proofs.kev.Kev.{kev_accepted, kev_goes}
pub use Rattle.euler_laws.proofs.kev.KevSound.{KevGoes, edge_gone, edge_mapped, emptied, fan_killed, half_cases, m_in, not_m, tail_old, touched}
pub use Rattle.euler_laws.proofs.mef.Kef.{kef_accepted, kef_goes, mef_accepted}
pub use Rattle.euler_laws.proofs.mef.KefSound.{KefGoes}
pub use Rattle.euler_laws.proofs.mef.Mef.{mef_goes}
pub use Rattle.euler_laws.proofs.mef.MefSound.{MefGoes}
pub use Rattle.euler_laws.proofs.mef.MefUndo.{count-mef_new, count-mef_old, loops-mef}
pub use Rattle.euler_laws.proofs.mekr.MekrSpots.{JoinGoes, MekrHolds, count_spot, join_goes, mekr_holds, ring_is}
pub use Rattle.euler_laws.proofs.merge.Merge.{MergeGoes, OtherSolids, joined_same, joined_t, merge_accepted, merge_goes, merge_other, solid_new, sound-merge}
pub use Rattle.euler_laws.proofs.merge.Part.{PartGoes, face_in, faces_known-there, in_faces, listed_in_solid, part_accepted, part_goes}
pub use Rattle.euler_laws.proofs.mev.Mev.{lone_accepted, lone_goes, mev_accepted, mev_goes, mev_holds, mixed_first, mixed_second}
pub use Rattle.euler_laws.proofs.mev.MevSound.{MevGoes, tails_of_row, walks}
pub use Rattle.euler_laws.proofs.shared.Arcs.{arc_is, halves_of_edge}
pub use Rattle.euler_laws.proofs.shared.Bounds.{half_below, ring_number, steps, steps_are}
pub use Rattle.euler_laws.proofs.shared.Counted.{all_where_has, all_where_in, counted_once, none_counted, none_in}
pub use Rattle.euler_laws.proofs.shared.FaceRings.{outer_or_ring, ring_there}
pub use Rattle.euler_laws.proofs.shared.Faces.{LoopMoves, SameWalks, face_kept, face_moved, walks_same}
pub use Rattle.euler_laws.proofs.shared.Fans.{Fan, back_of, fan_of, half_after, half_face, loop_after, none_in_fan}
pub use Rattle.euler_laws.proofs.shared.FirstWhere.{first_passes, first_where_least}
pub use Rattle.euler_laws.proofs.shared.Goes.{all_hold, all_hold-back, all_hold-front, no_zero, none_refuses, not_false, taken, verdict_failed, verdict_passed, ◌also◌}
pub use Rattle.euler_laws.proofs.shared.KnownLoop.{Around, apart_xs, canonical_apart, cycle_is, face_is, half_is, loop_is, rotated_canonical}
pub use Rattle.euler_laws.proofs.shared.Listed.{IsIn-from_listed, all_where-rises, first_listed, found_past, listed-from_in, listed_as, listed_cases, listed_front, listed_passes, other_last, passes_listed, rest_listed}
pub use Rattle.euler_laws.proofs.shared.Loops.{IsLoop, after-walks, apart_out, count_gone, count_out, light, loop_at, loop_sound, none_else, none_free}
pub use Rattle.euler_laws.proofs.shared.Parts.{FaceSet, outer_other, row_here, row_other, solid_other}
pub use Rattle.euler_laws.proofs.shared.RisingLists.{above_middle, all_listed, below_middle, listed_at, not_found, place_of, rising, short_rises, within}
pub use Rattle.euler_laws.proofs.shared.Rounds.{Round, half_in, items_apart, items_from_least, met_once, next_in, round_closed, round_ended, round_more, round_start}
pub use Rattle.euler_laws.proofs.shared.Rows.{content_either, count-halves, count_or_lone, cycle_filled, edge_row_plus, edge_there, empty_is, face_there, half_of, lone_is, loop_row, no_items, no_rings_means, not_lone_cycle, of_half, point_row, solid_either, test_ring, where_held_none, where_held_there}
pub use Rattle.euler_laws.proofs.shared.Same.{Rewritten, content-new, face-same, loop-same, map_twice, mapped_some, one_solid_round, same_point, same_tail}
pub use Rattle.euler_laws.proofs.shared.TwoRows.{face_same, row_else, row_second}
pub use Rattle.euler_laws.proofs.shared.Undo.{after_first, both_in, both_out, put_apart, put_in, same_edges, same_loops, taken_out}
pub use Rattle.euler_laws.proofs.shared.UpTo.{count_up_to, listed_up_to, up_to, up_to_all, up_to_next, up_to_none}
