-- What the proofs here take from elsewhere, passed on from one place. Declares nothing.
pub use Rattle.command_laws.proofs.BlockFaces.{block_has_four_sides, block_has_top_and_bottom, block_takes_six_faces}
pub use Rattle.command_laws.proofs.BlockFlat.{IsOneOf, base_corners, blocks_lie_flat, no_older, of_block, one_of, sound_after}
pub use Rattle.command_laws.proofs.OnFaces.{vertex_there, starts_in, ends_in}
pub use Rattle.command_laws.proofs.Owners.{Agree, OnSolid, agree_on, half_is_on, has_owner, is_either, is_of, not_either, owner_is, solid_of_vertex, vertex_kept, is_it}
pub use Rattle.command_laws.proofs.Turned.{IsTurned, turned_lies, turned_pass}
pub use Rattle.command_laws.proofs.caps_laws.Whole.{caps_have_normals, caps_stand, holes_are_closed}
pub use Rattle.command_laws.proofs.splits_laws.Along.{ComesOf, half_comes}
pub use Rattle.command_laws.proofs.splits_laws.DrawnFaces.{drawn_one, spread}
pub use Rattle.command_laws.specs.Capped.{IsCapOf, area_below, cap, caps_of, cycles_of, sum_of}
pub use Rattle.command_laws.specs.Commands.{IsBlock}
pub use Rattle.command_laws.specs.NewFaces.{IsFaceOf, all_moved, area_to, last_face, nth, plane_round, side_over, turned_back, up_by}
pub use Rattle.command_laws.specs.Splits.{IsOfEither}
pub use Rattle.convex_laws.specs.Convex.{BendsAway, BlockKeepsConvex, BlockKeepsStrictlyConvex, BlocksAreConvex, BuiltAreConvex, BuiltHaveVolume, ConvexSolidsHaveVolume, ConvexSplitsAreRefusedFor, IsBuilt, IsConvex, IsStrictlyConvex, IsVertexOf, LiesAbove, LiesBelow, MayRefuseConvexSplit, PartsOfConvexSolidsHaveVolume, RoundLooksAlong, SplitLeavesConvex, SplitLeavesStrictlyConvex, SplitPartsLieApart, SplitsKeepStrictlyConvex, SplitsStayBelow, all_on_one_side, block_made, cut_off_the_lattice, lone_loop, no_such_solid, number_out_of_range, numbers_spent, places_crossed, plane_out_of_range, redone, solid_split, solid_there_already, started, swept_from, undone, vertex_branched}
pub use Rattle.euler_laws.proofs.Common.{IsIn-from_listed, all_hold, back_of, first_listed, half_after, half_face, halves_of_edge, listed-from_in, listed_cases, listed_front, loop_after, no_rings_means, no_zero, not_lone_cycle, rest_listed, same_tail, none_in}
pub use Rattle.euler_operators.proofs.Common.{IsApart-map, IsIn-filter, IsIn-map, IsIn_head, IsIn_one, IsIn_or_not, IsIn_rest, add_none, content_row, count-append, count-canonical, count-filter, cycle_there, dif-parts, difs, dot_origin, dot_sum, dot_turned, face_row, filter_passes, first_fails, from_map, in-holds, item_loop, level_is, level_on, loop_there, mate-mate, mate_minus, mate_plus, mate_there, neg-dif, none_moved, number, plus_other, plus_there, point_row, row_of, row_some, same_content, same_dif, same_solid, same_vector, splice_at, splice_at_other, splice_elsewhere, tick_other, tick_same, zero_first_where, moved_twice}
pub use Rattle.euler_operators.specs.Common.{Condition, Has, HasHalf, IsApart, IsIn, LoopContent, Model, Plane, Point, Sound, StandsIn, Table, after, after_mef, after_mev, are_opposite, before, canonical, content, count, cross, cut_between, cycle, cycle_of, direction, dot, edge_of, face_at, faces_of, first_refusal, height, holds, is_above, is_below, is_empty, is_lone, is_on, items_of, lists, lone, mate, minus, moved, no_point, opposite, origin, outer, plus, ring_in, rings_of, same_point, solid_of, tick}
unfoldable pub use Rattle.euler_operators.specs.Common.{empty_model, face_of, has_rings, loop_of, part, point_of, tail}
pub use Rattle.plane_split.specs.SplitModels.{IsSplit}
pub use Rattle.shapes.proofs.Common.{IsClosed, IsPathTo, anchor_on, are_on, area-append, area_mates, at_most_greatest, begins, cross_back, cross_nothing, dot_back, face_listed, face_of_loop, face_told, get-put_cases, items_there, listed_face, loop_closed, no_product, none_is_lone, on_one, on_some, same_is, some_direction, told_alike}
pub use Rattle.shapes.proofs.measures.Products.{cross_across, dot_towards}
pub use Rattle.shapes.proofs.split.Facts.{split_begins}
pub use Rattle.shapes.specs.Common.{Caps, Drawing, FacePairs, Growing, Opening, Taken, all_cut, all_opened, all_pairs, anchor, area, base_of, below_halves, both_lists, crosses, crossing_edges, drawn_pairs, faces_above, finish, first_such, growing, has_stray_hole, hole_closed, holes_in, items_in, later_conditions, least_branched, least_lone, loop_is_cut, negated, next_cut, next_drawn, next_place, no_caps, numbers_after, opened_along, outer_caps, plane_through, reaches_above, reaches_below, scaled, section_cycles, section_ends, split_refusal, start, straddling_faces, straddling_pairs, towards, undrawn, vector, volume_in}
unfoldable pub use Rattle.shapes.specs.Common.{block_conditions, boundary, corners, early_split_conditions, face_is_above, first_conditions, is_cut_often, is_flat, is_hole, is_place, is_touched, loops_of, normal, plane_of, section_conditions, six_volume, split_conditions, straddles, with_crossings, with_drawings}
pub use Rattle.split_drawing_laws.proofs.crossings.Premises.{edge_facts, face_facts, in_solid, item_in_face, solid_facts, loop_in_face}
pub use Rattle.split_drawing_laws.proofs.crossings.Whole.{crossings_keep, crossings_sound}
pub use Rattle.split_drawing_laws.proofs.drawings.Stays.{draw_stays, draw_tails, join_stays, join_tails, start_stays, stays_on}
pub use Rattle.split_drawing_laws.proofs.drawings.Whole.{drawable, drawable_on, drawing_stays}
pub use Rattle.split_drawing_laws.proofs.face_sides.Begun.{TailIn, none_lone, none_straddles, tail_in}
pub use Rattle.split_drawing_laws.proofs.face_sides.Shared.{any_from, none_from}
pub use Rattle.split_drawing_laws.proofs.half_sides.PlaceEnds.{place_of_end, place_on, side_within, take_sides}
pub use Rattle.split_drawing_laws.proofs.half_sides.Starts.{old_face, turn_at}
pub use Rattle.split_drawing_laws.proofs.loop_sides.Parting.{after_drawn, after_joined, halves_drawn, halves_joined, none_new, on_both}
pub use Rattle.split_drawing_laws.proofs.pairs.LoopPlaces.{before_after, none_passes}
pub use Rattle.split_drawing_laws.proofs.pairs.Whole.{can_be_drawn, rewritings_sound}
pub use Rattle.split_drawing_laws.specs.crossings.Laws.{CanBegin}
pub use Rattle.split_drawing_laws.specs.drawings.DrawnIn.{DrawnIn, Stays}
pub use Rattle.split_drawing_laws.specs.drawings.Passing.{Drawable}
pub use Rattle.split_drawing_laws.specs.half_sides.HalfSides.{side_of}
pub use Rattle.split_laws.proofs.Stages.{stages}
pub use Rattle.split_laws.proofs.drawn.Drawn.{drawn_sound, never_stuck}
pub use Rattle.split_opening_laws.proofs.opening.Whole.{opened_sound}
pub use Rattle.split_opening_laws.proofs.sections.InTurn.{can_open, new_caps, opened_next, openings_carry}
pub use Rattle.split_opening_laws.proofs.sections.OpenedRows.{face_kept, half_cases, loop_row, mate_face, minus_face, vertices_are}
pub use Rattle.split_opening_laws.specs.cycles.SectionCycles.{AreOf, AreSectionCycles, IsBelowHalf, IsSectionCycle}
pub use Rattle.split_opening_laws.specs.sections.Capped.{cap_faces}
pub use Rattle.split_opening_laws.specs.sections.InTurn.{CanBeOpenedInTurn, halves_in, upper_faces}
pub use Rattle.std.proofs.Common.{All, Bool, List, None, Option, Some, [], ap, arith, cond, drop, eq-eqb, false, filter, fold, get_or, inl, inr, int_le, int_lt, is_some, length, map, nat_eq, nat_lt, neg_ℤ, negsuc, not, pos, refl, subst, suc, sym, true, true≢false, unsigned_abs, unwrap_or, zero, ℕ, ℤ, ◌&&◌, ◌*ℤ◌, ◌*◌, ◌++◌, ◌+ℤ◌, ◌+◌, ◌-ℤ◌, ◌<◌, ◌||◌, ◌∙◌, ◌∷◌, ◌≡◌, ◌≢◌, ◌≤◌, ◌⊎◌}
pub use Rattle.std.proofs.lemmas.Bool.{and_parts, cases_eq, cases_lt, false_from_ne_true, false≢true, or_parts, not-true}
pub use Rattle.std.proofs.lemmas.Bool.Decides.{eqb_tells, nat_tests}
pub use Rattle.std.proofs.lemmas.Int.{ints}
pub use Rattle.std.proofs.lemmas.List.{length-map, map-append}
pub use Rattle.std.specs.List.{list_all, list_any}
pub use Rattle.std.specs.Ordering.{int_eq}
pub use Rattle.undo_journal.specs.Machine.{Machine, back_to, forth_to, held}
