-- What the proofs here take from elsewhere, passed on from one place. Declares nothing.
pub use Rattle.euler_laws.proofs.Common.{IsIn-from_listed, Round, all_where-rises, counted_once, half_in, items_apart, items_from_least, listed-from_in, listed_passes, lone_is, met_once, one_solid_round, passes_listed, ring_number, ring_there, round_closed, round_ended, round_more, round_start, steps, steps_are, up_to}
pub use Rattle.euler_operators.proofs.Common.{IsApart-images, IsIn-map, IsIn_or_not, IsRotation-same, apart_within, coordinate_held, coordinate_is, coordinate_within, coordinates, count-append, count-rotate_to, cycle_there, difference_within, dot_turned, first_is_plus, fits, fits_as, head_canonical, held, held_as, held_is, held_short, least_in, least_le, loop_there, minor_of, minor_within, moved_none, moved_twice, none_moved, plus_row, product_within, rotate_to-rotates, row_some, short_fits, short_is, split_at, sum_told, sum_within, tick_other, tick_same, vector_within}
pub use Rattle.euler_operators.specs.Common.{Content, HalfEdge, Has, HasHalf, IsApart, IsIn, IsInRange, IsLoneAt, IsPlane, IsRotation, IsVectorWithin, IsWithin, LoopContent, Model, Plane, Point, Sound, after, before, code, content, count, cross, cycle, cycle_of, direction, dot, edge_of, face_at, faces_of, has, has_half, head_or, is_coordinate, is_lone, is_on, items_of, least, lists, lone, lone_vertex, loop_of, mate, moved, no_point, normal_limit, offset_limit, origin, outer, plus, rings_of, rotate_to, same_point, solid_of, tail, tick}
unfoldable pub use Rattle.euler_operators.specs.Common.{is_first, point_of}
pub use Rattle.shapes.proofs.Common.{AreHalves, all_loops_apart, corners_are, different_items, face_of_loop, faces_none, faces_short, half_solid, halves_apart, halves_short, in_some, items_joined, loop_in_solid, loops_apart, loops_none, loops_of_apart, loops_short, loops_to, on_one, on_some, one_leads, only_leads, solid_half, solid_has_loop, solid_loops, solid_loops_apart}
pub use Rattle.shapes.specs.Common.{corners_in, edges_of, faces_of_both, finish, first_such, items_in, leads, least_lone, loops_in, start, vertices_in, vertices_of, vertices_on}
unfoldable pub use Rattle.shapes.specs.Common.{boundary, corners, loops_of}
pub use Rattle.solid_measure.specs.Frames.{IsFrame, IsOuterFrame}
pub use Rattle.solid_measure.specs.Measure.{anchor, area, area_limit, first_vertex, plane_through, read, volume_in}
unfoldable pub use Rattle.solid_measure.specs.Measure.{is_flat, normal, plane_of, six_volume}
pub use Rattle.solid_measure.specs.declared.faces.Frame.{Frame}
pub use Rattle.solid_measure.specs.declared.solid_counts.Met.{Met}
pub use Rattle.solid_measure.specs.solid_counts.Counts.{rings_in}
unfoldable pub use Rattle.solid_measure.specs.solid_counts.Counts.{counts}
pub use Rattle.solid_measure.specs.solid_counts.Sums.{IsFew, half_met, halves_met, loop_met, loops_met, nothing, together}
pub use Rattle.solid_walks.proofs.Borders.{ring_has}
pub use Rattle.solid_walks.proofs.Known.{filled}
pub use Rattle.solid_walks.proofs.NextFace.{faces_all, faces_more, next_face}
pub use Rattle.solid_walks.proofs.face_walks_laws.CycleWalks.{comes_back, cycle_apart, goes_on, item_in, item_of, item_there, round_there, seen, start_seen, to_come}
pub use Rattle.solid_walks.proofs.face_walks_laws.FaceWalks.{both_rise, face_in, faces_rise, loop_in, member_both}
pub use Rattle.solid_walks.proofs.face_walks_laws.HalfCodes.{edge_fits}
pub use Rattle.solid_walks.proofs.face_walks_laws.Yielded.{serves_folding, serves_listed, yielded_in}
pub use Rattle.solid_walks.proofs.lone_laws.LoneLoops.{both_lone, least_more, least_none}
pub use Rattle.solid_walks.proofs.lone_laws.Searches.{IsLeast, and_or, first_is, fold_lesser, least_either, least_rising, least_same, one_least}
pub use Rattle.solid_walks.specs.Least.{lesser}
pub use Rattle.solid_walks.specs.Store.{IsNextFace, IsNextRing, Tells}
pub use Rattle.std.proofs.Common.{Bool, FitsSigned, IfSome, List, None, Option, Some, [], ap, append-nil, arith, cond, eq-eqb, eqb-true, false, inl, inr, is_some, length, length-append, map, min, nat_eq, neg_ℤ, not, of_calls, pos, refl, rules, subst, sym, tests, true, true≢false, unwrap_or, ℕ, ℤ, ◌%◌, ◌&&◌, ◌*ℤ◌, ◌*◌, ◌++◌, ◌+ℤ◌, ◌+◌, ◌-ℤ◌, ◌-◌, ◌<◌, ◌||◌, ◌∙◌, ◌∷◌, ◌≡◌, ◌≢◌, ◌≤◌, ◌⊎◌}
pub use Rattle.std.proofs.lemmas.Bool.Decides.{eqb_tells}
pub use Rattle.std.proofs.lemmas.Int.{fits_signed_from_abs, ints, to_z-of_z}
pub use Rattle.std.proofs.lemmas.Iterator.Consumers.{YieldsList-from_first, fold_from_yields_List}
pub use Rattle.std.proofs.lemmas.Iterator.Search.{all_from_yields_List, find_from_yields_List}
pub use Rattle.std.specs.List.{list_all}
