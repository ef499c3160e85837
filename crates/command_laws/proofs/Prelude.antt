-- What the proofs here take from elsewhere, passed on from one place. Declares nothing.
pub use Rattle.command_laws.specs.Capped.{IsCapOf, area_below, cap, cycles_of, sum_of}
pub use Rattle.command_laws.specs.Commands.{IsBlock}
pub use Rattle.command_laws.specs.Flat.{BlockKeepsFlat, BlocksLieFlat, FacesLieFlat, FarFacesLieFlat, GlueKeepsFlat, GluesLieFlat, PlanarLieFlat, SidesLieFlat, lie_flat}
pub use Rattle.command_laws.specs.Framed.{BlockKeepsEdges, BlockKeepsLoops, BlockKeepsOwners, BlockKeepsPoints, BlockKeepsShapes, FacesStand}
pub use Rattle.command_laws.specs.LeftAlone.{AllBut, Each, KeepsEdges, KeepsLoops, KeepsPoints, KeepsShapes, OfOthers, StandsAsBefore}
pub use Rattle.command_laws.specs.NewFaces.{BlockHasFourSides, BlockHasTopAndBottom, BlockTakesSixFaces, IsFaceOf, all_moved, area_to, corner_points, last_face, nth, plane_round, side_over, turned_back, up_by}
pub use Rattle.command_laws.specs.RingedFaces.{IsFarFace, RingedFaceIsFar, loop_points}
pub use Rattle.command_laws.specs.SplitEdges.{EndsOn, LeadsAlong, LeadsAlongSolid, SplitsMakeNoLines}
pub use Rattle.command_laws.specs.Splits.{IsOfEither, SplitKeepsEdges, SplitKeepsLoops, SplitKeepsPoints, SplitKeepsRows, SplitKeepsShapes}
pub use Rattle.command_laws.specs.TakenOver.{AreTurned, IsTakenOver}
pub use Rattle.euler_laws.proofs.Common.{IsIn-from_listed, IsLoop, JoinGoes, KemrGoes, LoopMoves, MakeGoes, MefGoes, all_hold, all_where-rises, all_where_has, content-new, edge_there, effect_keeps_sound, face_kept, face_moved, face_same, face_there, first_passes, half_after, half_face, halves_of_edge, inverse_goes, inverse_undoes, join_goes, kemr_goes, kfmrh_goes, listed-from_in, listed_front, listed_passes, loop_after, loop_row, loop_sound, mapped_some, mef_goes, mfkrh_goes, no_rings_means, none_refuses, one_solid_round, passes_listed, row_second, same_tail, solid_either, walks_same, ◌also◌, none_in}
pub use Rattle.euler_operators.proofs.Common.{IsIn-filter, IsIn-get_or, IsIn-map, IsIn_head, IsIn_or_not, IsIn_rest, Linked, canonical-rotates, code-half, content_row, count-append, count-canonical, count-filter, cycle_there, dif-parts, difs, dot_moved, dot_turned, edge_of-mate, face_row, filter_passes, from_map, get-put_here, get-put_other, get-remove_here, get-remove_other, holds_in, in-holds, in_use_within, item_loop, item_there, less_still, lone_there, loop_there, mate-mate, mate_minus, mate_plus, mate_there, minus_row, minus_tail_row, minus_there, moved_at, moved_twice, no_row, none_moved, number, number_real, outer_row, plus_row, plus_tail_row, plus_there, row_elsewhere, row_some, same_content, same_dif, same_edge, same_face, same_outer, same_solid, same_sum, same_vector, solid_row, split_at, sum_first, sum_to, tick_other, tick_same}
pub use Rattle.euler_operators.specs.Common.{Corner, FaceRow, HalfEdge, Has, HasHalf, IsCycle, IsIn, IsPath, IsRing, LoopContent, LoopRow, Model, Plane, Point, Sound, Table, after, are_opposite, canonical, code, corner_loop, count, cross, cycle, direction, dot, edge_of, edge_row, face_at, faces_of, faces_to_solid, first_false, get-map_rows, head_or, height, holds, is_above, is_below, is_empty, is_lone, is_on, items_of, lists, lone, loop_of, loop_to_face, mate, minus, moved, no_face, opposite, origin, outer, plus, rings_of, same_point, tables, tick}
unfoldable pub use Rattle.euler_operators.specs.Common.{content, effect, face_of, has_rings, inverse, kemr, kfmrh, mef, mfkrh, part, point_of, ring_in, solid_of, tail}
pub use Rattle.euler_operators.specs.declared.Op.TheVariants.{Kemr, Kfmrh, Mef, Mekr, Mfkrh}
pub use Rattle.gluing.specs.Flat.{IsClosedFlat}
pub use Rattle.plane_split.specs.SplitModels.{IsSplit}
pub use Rattle.shapes.proofs.Common.{IsReplaced, anchor_on, are_on, area-append, area_mates, areas_kept, at_most_greatest, content_stays, cross_moved, face_of_loop, get-put_cases, greatest-put_last, left_numbers_hold, list_parts, loops_agree, moved_back, no_product, none_replaced, on_one, plane_told, rising_one, same_is, told_anywhere}
pub use Rattle.shapes.specs.Common.{Caps, Drawing, FacePairs, Growing, Opening, Taken, all_cut, all_opened, all_pairs, anchor, area, base_of, below_halves, block_refusal, both_lists, crossing_edges, drawn_between, faces_above, faces_drawn, faces_of_both, finish, first_such, first_vertex, glue_refusal, growing, has_repeats, hole_closed, holes_closed, holes_in, is_plane_of, is_rotation, items_in, lamina_at, lamina_face, lamina_refusal, least_lone, negated, next_cut, next_drawn, next_place, no_caps, numbers_after, opened_along, opened_at, opened_row, opened_tail, outer_caps, outline, plane_through, prism_from, prism_refusal, renamed, rewritten, rewritten_row, scaled, section_cycles, split_refusal, start, straddling_faces, straddling_pairs, top_edge, top_items, towards, undrawn, vector, vertices_in, vertices_on, with_path, with_points, with_sides}
unfoldable pub use Rattle.shapes.specs.Common.{block_conditions, block_model, boundary, corners, early_glue_conditions, face_is_above, glue_conditions, glue_model, is_flat, is_hole, lamina_conditions, lamina_model, loops_of, normal, plane_of, prism_model, raised, split_model, straddles, taken_in, with_crossings, with_drawings, with_side}
pub use Rattle.split_drawing_laws.proofs.crossings.OneCut.{cut_rows, doubled, doubled_none, edge_cut}
pub use Rattle.split_drawing_laws.proofs.crossings.Premises.{any_passes, edge_facts, face_facts, in_solid, tail_in_face, loop_in_face}
pub use Rattle.split_drawing_laws.proofs.crossings.Runs.{AreCut, Going, crossing_now, cut_at, goes_now, going_on, kept_point, kept_start, next_model, same_cut, same_start, uncut_now}
pub use Rattle.split_drawing_laws.proofs.crossings.Whole.{crossings_keep, crossings_sound, tails_stay}
pub use Rattle.split_drawing_laws.proofs.cut_volumes.CutWhole.{crossings_measured}
pub use Rattle.split_drawing_laws.proofs.cut_volumes.Told.{solid_stays}
pub use Rattle.split_drawing_laws.proofs.drawings.Counted.{faces_are}
pub use Rattle.split_drawing_laws.proofs.drawings.Drawn.{CanDraw, CanJoin, draw_accepted, face_drawn, face_drawn_else, join_accepted, loops_joined, loops_joined_faces}
pub use Rattle.split_drawing_laws.proofs.drawings.Faces.{between_keeps, face_goes}
pub use Rattle.split_drawing_laws.proofs.drawings.Rings.{Newer, RingOf, moved_drawn, ring_back, ring_goes, ring_stays}
pub use Rattle.split_drawing_laws.proofs.drawings.Stays.{draw_stays, draw_tails, join_stays, join_tails, row_else, row_gone, row_joined, row_other, start_stays, stays_on}
pub use Rattle.split_drawing_laws.proofs.drawings.Whole.{drawable, drawable_on, next_is, ready}
pub use Rattle.split_drawing_laws.proofs.drawn_volumes.DrawWhole.{LiesFlat, Within, face_within, lies_flat}
pub use Rattle.split_drawing_laws.proofs.face_sides.Beside.{never_free, new_loop_face, old_loop_face}
pub use Rattle.split_drawing_laws.proofs.half_sides.PlaceEnds.{take_sides}
pub use Rattle.split_drawing_laws.proofs.loop_sides.Parting.{halves_drawn, halves_joined}
pub use Rattle.split_drawing_laws.proofs.pairs.Whole.{can_be_drawn}
pub use Rattle.split_drawing_laws.specs.crossings.Kept.{Kept}
pub use Rattle.split_drawing_laws.specs.crossings.Laws.{CanBegin}
pub use Rattle.split_drawing_laws.specs.drawings.DrawnIn.{DrawnIn, Stays}
pub use Rattle.split_drawing_laws.specs.drawings.Pairs.{Fits, pairs_in}
pub use Rattle.split_drawing_laws.specs.drawings.Passing.{Drawable, Ready}
pub use Rattle.split_drawing_laws.specs.half_sides.HalfSides.{side_of}
pub use Rattle.split_drawing_laws.specs.loop_sides.Parted.{Crosses}
pub use Rattle.split_laws.proofs.Flags.{one_outer, vertex_still}
pub use Rattle.split_laws.proofs.Holes.{AreClosed, AreLevel, IsOfEach, each_at, each_last, holes_counted, holes_each, level_each, plain_each}
pub use Rattle.split_laws.proofs.Stages.{stages}
pub use Rattle.split_laws.proofs.drawn.Drawn.{begins, drawn_sound, drawn_stays}
pub use Rattle.split_laws.proofs.measures.Splittable.{can_be_split}
pub use Rattle.split_laws.proofs.opened.Caps.{area_kept, loop_kinds, lower_normal, lower_row, upper_normal}
pub use Rattle.split_laws.proofs.opened.InTurn.{along_each, is_rewritten}
pub use Rattle.split_laws.proofs.opened.Starts.{back_along, finish_old, start_old, swap}
pub use Rattle.split_laws.proofs.volumes.Closed.{ClearOf, closing, closing_carries, closing_leads}
pub use Rattle.split_laws.proofs.volumes.Taken.{CanTake}
pub use Rattle.split_laws.specs.SplitOps.{closing_ops, hole_ops}
pub use Rattle.split_laws.specs.opened.Told.{AllLieAlong, LiesAlong}
pub use Rattle.split_laws.specs.volumes.Laws.{CanBeSplit}
pub use Rattle.split_opening_laws.proofs.opening.Whole.{opened_sound}
pub use Rattle.split_opening_laws.proofs.sections.InTurn.{can_open, capped_carry, new_caps, opened_next, openings_carry}
pub use Rattle.split_opening_laws.proofs.sections.Numbered.{renamed_not, rim_below}
pub use Rattle.split_opening_laws.proofs.sections.OpenedRows.{edges_are, face_still, half_cases, upper_row}
pub use Rattle.split_opening_laws.specs.cycles.SectionCycles.{AreSectionCycles, IsBelowHalf}
pub use Rattle.split_opening_laws.specs.sections.Capped.{ArePlain, HasCaps, IsPlain, cap_faces}
pub use Rattle.split_opening_laws.specs.sections.InTurn.{CanBeOpenedInTurn, upper_faces}
pub use Rattle.split_opening_laws.specs.strips.Opened.{CanBeOpened}
pub use Rattle.std.proofs.Common.{Bool, List, None, Option, Some, [], ap, append-nil, append_assoc, arith, cond, drop, eq-eqb, eqb-true, false, filter, flat_map, fold, get_or, inl, inr, int_eq, int_le, int_lt, is_some, length, length-append, map, nat_eq, nat_le, ne_eqb, neg_ℤ, not, option_map, pos, refl, reverse, subst, suc, sym, take, true, true≢false, unsigned_abs, unwrap_or, zero, ℕ, ℤ, ◌&&◌, ◌*ℤ◌, ◌*◌, ◌++◌, ◌+ℤ◌, ◌+◌, ◌-ℤ◌, ◌-◌, ◌<◌, ◌||◌, ◌∙◌, ◌∷◌, ◌≡◌, ◌≢◌, ◌≤◌, ◌⊎◌}
pub use Rattle.std.proofs.lemmas.Bool.{and_parts, cases_eq, cases_lt, eqb-false, false_from_ne_true, not-true}
pub use Rattle.std.proofs.lemmas.Bool.Decides.{eqb_tells, nat_tests}
pub use Rattle.std.proofs.lemmas.Grind.{flat_map-append}
pub use Rattle.std.proofs.lemmas.Int.{ints}
pub use Rattle.std.proofs.lemmas.List.{length-map, map-append, reverse-append}
pub use Rattle.std.proofs.lemmas.List.Folds.{list_all-append, list_all-map}
pub use Rattle.std.specs.List.{list_all, list_any}
pub use Rattle.sweeps_laws.proofs.lamina.Blocks.{bases_rise, blocks_have_bases}
pub use Rattle.sweeps_laws.proofs.lamina.Walk.{lamina_goes, lamina_is_sound}
pub use Rattle.sweeps_laws.proofs.prism.Accepted.{prism_sound}
pub use Rattle.sweeps_laws.proofs.swept.Bounds.{HasFree, faces_within, item_within, tail_within, taken_free}
pub use Rattle.sweeps_laws.proofs.swept.Filled.{filled, filled_greatest, filled_new}
pub use Rattle.sweeps_laws.proofs.swept.Lifted.{IsPathOf, content_here, content_new, face_old, item_start, keeps_swept, loop_here, loop_new, loop_old, next_start, rings_new, rings_old, riser_finish, solid_after, swept, there_after, top_finish, top_start, within}
pub use Rattle.sweeps_laws.proofs.swept.Numbers.{next_cases, next_within, riser_above, top_above}
pub use Rattle.sweeps_laws.proofs.swept.Sides.{faces_grown, side_face, side_items, start_kept}
pub use Rattle.sweeps_laws.specs.prism.SweepOps.{taken_after}
pub use Rattle.undo_journal.specs.Machine.{Machine, held}
