-- What the proofs here take from elsewhere, passed on from one place. Declares nothing.
pub use Rattle.euler_laws.proofs.Common.{Around, CornerAt, IsIn-from_listed, KefGoes, KevGoes, KillGoes, Leads, MekrGoes, MergeGoes, OtherSolids, all_where-rises, apart_xs, both_out, corner_here, count_out, counted_once, cycle_is, edge_row_plus, effect_keeps_sound, effects_keep_sound, face_there, half_is, joined_same, joined_t, kef_accepted, kev_accepted, kfmrh_accepted, leads_first, leads_on, leads_one, leads_sound, listed-from_in, listed_as, listed_passes, loop_after, loop_is, loop_row, map_twice, mapped_some, mekr_accepted, merge_accepted, merge_other, none_counted, one_solid_round, same_tail, solid_either, solid_new, sound-merge, taken_out, within, none_in}
pub use Rattle.euler_laws.proofs.kev.MevUndo.{as_cycle}
pub use Rattle.euler_laws.specs.Laws.{AreAccepted, effects}
pub use Rattle.euler_operators.proofs.Common.{IsApart-canonical, IsIn-map, IsIn_head, IsIn_last, IsIn_or_not, IsIn_some_head, IsIn_successor, after_at, before_at, canonical-rotates, canonical_nil, canonical_same, code-half, content_row, count-append, count-canonical, count-reverse, cycle_sound, cycle_there, edge_of-mate, face_row, from_map, get-put_here, get-put_other, get-remove_other, holds-none, holds_in, in-holds, item_loop, last_or_push, map-put, map_one, map_same, mate-mate, mate_minus, mate_plus, mate_there, minus_row, moved_none, none-holds, none_added, not_held, or_true, other_loop, plus_row, remove-put, rest_at, rest_canonical, rest_head, rest_same, reverse-cons, row_of, same_edge, same_head, same_outer, successor_inner, successor_same, tail_row, tick_other, tick_same, without_none}
pub use Rattle.euler_operators.specs.Common.{At, EdgeRow, FaceRow, Has, HasHalf, IsApart, IsIn, LoopContent, LoopRow, Model, SameItems, Sound, StandsIn, Table, canonical, count, cycle, cycle_of, cycle_or_lone, dot, edge_of, edge_row, face_at, faces_of, faces_to_solid, first_false, get-map_rows, get-put, half, head_or, holds, is_first, is_number, items_of, last_or, lists, lone, loop_of, loop_to_face, mate, minus, moved_tail, no_edge, no_face, no_loop, plus, rest, rings_of, same_table, solid_of, strictly_rises, successor, tables, tail_in, without}
unfoldable pub use Rattle.euler_operators.specs.Common.{after, content, effect, face_of, kef, kev, kfmrh, mekr, merge, outer, point_of, tail}
pub use Rattle.euler_operators.specs.declared.Op.TheVariants.{Kef, Kev, Kfmrh, Mef, Mekr, Merge}
pub use Rattle.shapes.proofs.Common.{AgreeOn, Facing, IsReplaced, area-append, area_opposed, area_same, corner_told, dot_back, face_of_loop, map_agree, map_removed, normal_agrees, renamed_cases, renamed_last, renamed_more, renamed_not, replaced, replaced_area, rings_agree, row_stays, row_turns, row_unrenamed, side, tail_renamed, volume_stays, volume_told, without_first, without_gone, without_more, without_there}
pub use Rattle.shapes.proofs.glue.Facts.{facing, shape}
pub use Rattle.shapes.specs.Common.{anchor, area, closing, closings, finish, first_vertex, fresh_edge, glue_refusal, glued_along, is_flat, items_in, moves, negated, opening, paired, partner, partners, renamed, renamed_tails, rewritten, rewritten_row, rim, seam, start, volume_in, without_rows}
unfoldable pub use Rattle.shapes.specs.Common.{boundary, corners, glue_model, glue_ops, glued_part, loops_of, normal, six_volume}
pub use Rattle.std.proofs.Common.{Bool, IsTrue, List, None, Option, Some, [], ap, append_assoc, arith, cond, eq-eqb, eqb-true, false, inl, inr, is_some, map, nat_eq, ne_eqb, neg_ℤ, option_map, pos, refl, reverse, rules, subst, sym, true, true≢false, unwrap_or, ℕ, ℤ, ◌++◌, ◌+ℤ◌, ◌+◌, ◌||◌, ◌∙◌, ◌∷◌, ◌≡◌, ◌≢◌, ◌⊎◌}
pub use Rattle.std.proofs.lemmas.Bool.Decides.{eqb_tells, nat_tests}
pub use Rattle.std.proofs.lemmas.List.{map-append, reverse-append}
pub use Rattle.sweeps_laws.proofs.prism.Steps.{edge_plus, mef_does, mef_fits, with_chord}
