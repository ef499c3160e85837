-- What the proofs here take from elsewhere, passed on from one place. Declares nothing.
pub use Rattle.euler_laws.proofs.Common.{FaceSet, IsIn-from_listed, KillGoes, Leads, LoopMoves, PartGoes, all_where-rises, all_where_has, counted_once, effects_keep_sound, face_in, face_kept, face_moved, face_there, g_gone, half_after, half_face, halves_of_edge, kfmrh_accepted, kill_face_else, kill_face_l, kill_outer, kill_same, kill_solid, l_face, leads_none, leads_on, leads_one, listed-from_in, loop_after, loop_row, loop_sound, no_items, no_zero, none_counted, not_lone_cycle, other_last, outer_other, part_accepted, passes_listed, row_here, row_other, solid_either, solid_other, sound-kfmrh, walks_same}
pub use Rattle.euler_operators.proofs.Common.{IsIn-filter, IsIn-map, IsIn_head, IsIn_or_not, IsIn_some_head, add_assoc, add_exchanged, all_mapped, content_row, count-append, count-canonical, count-filter, count-reverse, count_taken, cycle_there, dot_moved, dot_turned, each_mapped, face_row, filter_passes, first_fails, from_map, get-put_here, get-put_other, in-holds, in_use_within, item_loop, item_there, less_still, lone_there, loop_there, map_alike, mate-mate, mate_minus, mate_plus, mate_there, minus_row, minus_there, never_lone, no_row, none_added, none_moved, plus_row, plus_there, row_some, same_outer, same_solid, same_truth, solid_row, split_at, tail_row, tick_other, tick_same, zero_first_where}
pub use Rattle.euler_operators.specs.Common.{FaceRow, Has, HasHalf, IsApart, IsIn, IsLoneAt, LoopContent, LoopRow, Model, Plane, Point, SameItems, Sound, canonical, count, cross, cycle, direction, dot, edge_of, face_at, faces_of, faces_to_solid, get-map_rows, head_or, height, is_above, is_below, is_lone, is_number, is_on, items_of, lists, lone, loop_of, loop_to_face, mate, minus, moved, no_face, no_point, origin, plus, rings_of, same_point, strictly_rises, tables, tick}
unfoldable pub use Rattle.euler_operators.specs.Common.{content, effect, face_of, kfmrh, mef, mekr, outer, part, point_of, ring_in, solid_of, tail}
pub use Rattle.euler_operators.specs.declared.Op.{Op}
pub use Rattle.euler_operators.specs.declared.Op.TheVariants.{Kfmrh, Part}
pub use Rattle.gluing_laws.proofs.Listed.{count_where, one_if, passed, same_search, same_volumes, volume_append, volume_of, volume_same}
pub use Rattle.gluing_laws.proofs.Measures.{only_loop}
pub use Rattle.shapes.proofs.Common.{AgreeOn, IsClosed, IsPathTo, IsReplaced, are_on, area-append, area_kept, area_mates, area_same, areas_kept, corner_kept, cross_moved, cross_nothing, dot_back, face_of_loop, flat_closed, get-put_cases, items_joined, none_is_lone, none_left, normal_agrees, replaced_area, replaced_start, rings_agree, some_direction, told_alike, told_anywhere, volume_stays, volume_told}
pub use Rattle.shapes.proofs.split.Facts.{SectionOpens, SplitBegins, none_first, split_begins, split_opens}
pub use Rattle.shapes.specs.Common.{AreFree, Caps, Drawing, FacePairs, Growing, Opening, Taken, all_opened, anchor, area, below_halves, both_lists, corners_in, crossing_edges, drawn_between, faces_above, faces_drawn, finish, first_vertex, has_stray_hole, hole_closed, holes_closed, is_plane_of, items_in, least_lone, negated, next_drawn, next_place, no_caps, numbers_after, opened_at, opened_row, outer_caps, plane_of, reaches_above, reaches_below, renamed, rewritten, rewritten_row, section_cycles, some_above, some_below, split_drawn, split_refusal, start, straddling_pairs, undrawn, upper_left, vertices_of, volume_in, with_copies, with_crossings}
unfoldable pub use Rattle.shapes.specs.Common.{boundary, corners, face_is_above, is_hole, loops_of, next_opened, normal, opened_along, six_volume, split_model, straddles, with_drawings}
pub use Rattle.split_drawing_laws.proofs.crossings.Premises.{any_passes, in_solid, solid_facts, tail_in_face}
pub use Rattle.split_drawing_laws.proofs.drawings.Whole.{drawable, drawable_on, drawing_stays, next_is, ready}
pub use Rattle.split_drawing_laws.proofs.drawn_volumes.DrawWhole.{drawings_volumes, drawn_lies}
pub use Rattle.split_drawing_laws.proofs.face_sides.Begun.{TailIn, none_lone, none_straddles, tail_in}
pub use Rattle.split_drawing_laws.proofs.face_sides.Shared.{any_from, none_from}
pub use Rattle.split_drawing_laws.proofs.pairs.Whole.{can_be_drawn, rewritings_accepted, rewritings_free, rewritings_made, rewritings_sound}
pub use Rattle.split_drawing_laws.specs.drawings.DrawnIn.{DrawnIn, Stays}
pub use Rattle.split_drawing_laws.specs.drawings.Laws.{CanBeDrawn}
pub use Rattle.split_drawing_laws.specs.face_sides.Lone.{NoLoopIsLone}
pub use Rattle.split_laws.specs.SplitOps.{closing_ops, hole_ops, later_ops, openings_ops, ops_above, split_above, upper_ops}
unfoldable pub use Rattle.split_laws.specs.SplitOps.{split_ops}
pub use Rattle.split_laws.specs.drawn.Kept.{HasFace, KeepsSolids}
pub use Rattle.split_laws.specs.opened.Laws.{LieOn}
pub use Rattle.split_laws.specs.opened.Told.{AllLieAlong, AllTellAlike, LiesAlong, OutersAreOwn, TellsAlike}
pub use Rattle.split_laws.specs.sides.Sided.{AreSided, IsOfSolid, IsOnSide}
pub use Rattle.split_laws.specs.volumes.Closing.{CanClose}
pub use Rattle.split_laws.specs.volumes.Laws.{CanBeParted, CanBeSplit}
pub use Rattle.split_opening_laws.proofs.cycles.RisingLists.{filter_rises}
pub use Rattle.split_opening_laws.proofs.sections.InTurn.{above_there, all_on, can_be_opened, can_open, capped_carry, caps_rise, new_caps, opened_next, openings_carry, others_on, plain_alone, plain_lower, plain_upper, upper_next}
pub use Rattle.split_opening_laws.proofs.sections.Numbered.{in_numbers, length-numbers_after, numbers_at, numbers_in, other_number, renamed_cases, renamed_not, rim_at, rim_row}
pub use Rattle.split_opening_laws.proofs.sections.OpenedRows.{edges_are, face_still, faces_are, loops_are, tail_is, upper_row, vertices_are}
pub use Rattle.split_opening_laws.proofs.sections.StillBetween.{end_same, start_same, starts_elsewhere, there_in}
pub use Rattle.split_opening_laws.proofs.strips.Cycle.{half_in, low_vertex, mate_start, next_cases, next_copy, next_within, place_of}
pub use Rattle.split_opening_laws.specs.cycles.SectionCycles.{AreSectionCycles, IsBelowHalf, IsSectionCycle}
pub use Rattle.split_opening_laws.specs.sections.Capped.{ArePlain, HasCaps, IsPlain, cap_faces}
pub use Rattle.split_opening_laws.specs.sections.InTurn.{CanBeOpenedInTurn, halves_in, upper_faces}
pub use Rattle.split_opening_laws.specs.strips.Opened.{CanBeOpened}
pub use Rattle.std.proofs.Common.{Bool, IsTrue, List, None, Option, Some, [], ap, append-nil, append_assoc, arith, cond, eq-eqb, false, filter, flat_map, fold, get_or, inl, inr, int_eq, int_lt, is_some, length, map, nat_eq, ne_eqb, neg_ℤ, not, option_map, pos, refl, reverse, subst, suc, sym, true, true≢false, unwrap_or, zero, ℕ, ℤ, ◌&&◌, ◌++◌, ◌+ℤ◌, ◌+◌, ◌-◌, ◌<◌, ◌||◌, ◌∙◌, ◌∷◌, ◌≡◌, ◌≢◌, ◌≤◌, ◌⊎◌}
pub use Rattle.std.proofs.lemmas.Bool.{and_parts, false_from_ne_true}
pub use Rattle.std.proofs.lemmas.Bool.Decides.{eqb_tells, nat_tests}
pub use Rattle.std.proofs.lemmas.Int.{ints}
pub use Rattle.std.proofs.lemmas.List.{get_or-map, length-map, map-append}
pub use Rattle.std.specs.List.{list_any}
