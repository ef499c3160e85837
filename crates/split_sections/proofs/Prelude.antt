-- What the proofs here take from elsewhere, passed on from one place. Declares nothing.
pub use Rattle.euler_conditions.proofs.Coded.{coded, edge_fits}
pub use Rattle.euler_laws.proofs.Common.{IsIn-from_listed, all_where-rises, all_where_has, half_after, half_below, listed-from_in, loop_after, rises_on, rises_over, steps_are, verdict_failed, verdict_passed, within}
pub use Rattle.euler_operators.proofs.Common.{IsApart-images, IsApart-map, IsIn-filter, IsIn-map, IsIn_or_not, SameItems-from_permutation, apart_within, coordinate_is, count-append, count-filter, cycle_there, edge_of-code, fits, from_map, half_number, held, held_is, held_short, least_in, least_le, less_or_same, loop_there, mate-mate, mate_there, number_real, number_tied, rotate_to-rotates, same_edge, tick_other, tick_same, vector_within, within_coordinate}
pub use Rattle.euler_operators.specs.Common.{Above, Below, HalfEdge, Has, HasHalf, IsApart, IsIn, IsRotation, IsVectorWithin, IsWithin, Model, On, Plane, Point, SameItems, Sound, after, content, count, cross, cycle_of, direction, dot, face_at, face_of, faces_of, first_refusal, has, has_half, is_above, is_coordinate, items_of, least, lists, loop_of, mate, moved, need, no_face, normal_limit, numbers_of, orbit, outer, rings_of, rotate_to, strictly_rises, tail, tick, vector_of, walk_to}
unfoldable pub use Rattle.euler_operators.specs.Common.{code, edge_of, point_of, solid_of}
pub use Rattle.euler_operators.specs.declared.Refusal.{Refusal}
pub use Rattle.euler_operators.specs.declared.Why.TheVariants.{BranchedVertex, NoFace, NumberRange, SectionHoles}
pub use Rattle.shapes.proofs.Common.{AreHalves, all_loops_apart, different_items, face_of_loop, halves_short, in_some, items_counted, items_joined, items_there, listed_face, loops_of_apart, solid_half, tail_in}
pub use Rattle.shapes.specs.Common.{Taken, below_halves, cycle_conditions, cycle_from, faces_above, finish, first_such, has_stray_hole, items_in, least_branched, loops_in, loops_of, next_below, no_such, numbers_left, reaches_above, reaches_below, section_ends, start}
unfoldable pub use Rattle.shapes.specs.Common.{boundary, corners, face_is_above, is_hole, section_conditions, section_cycles}
pub use Rattle.solid_walks.proofs.face_walks_laws.Above.{AllAbove, above, all_above_members}
pub use Rattle.solid_walks.proofs.face_walks_laws.CycleWalks.{comes_back, cycle_apart, goes_on, item_in, item_there, start_is, to_come}
pub use Rattle.solid_walks.specs.Counters.{taken_of}
pub use Rattle.split_checks.proofs.Areas.{area_limited, area_push}
pub use Rattle.split_checks.proofs.Searches.{IsLeast, least_row, least_same, one_least}
pub use Rattle.split_checks.proofs.cut_places_laws.Lists.{no_half, of_picked, others, parts, picked_apart}
pub use Rattle.split_checks.proofs.cut_places_laws.NotedSides.{told_down, told_up}
pub use Rattle.split_checks.specs.Measure.{answer, area, area_limit, face_refusal, read}
unfoldable pub use Rattle.split_checks.specs.Measure.{normal}
pub use Rattle.split_checks.specs.cut_places.Sides.{same_sign, side_reached}
pub use Rattle.split_opening_laws.proofs.cycles.BelowHalves.{are_halves, halves_apart, halves_are, halves_rise, starts_are_ends}
pub use Rattle.split_opening_laws.proofs.cycles.Orbits.{around_apart, around_here, around_same, around_within}
pub use Rattle.split_opening_laws.specs.cycles.Permuting.{Permutes}
pub use Rattle.split_opening_laws.specs.cycles.SectionCycles.{AreOf, IsBelowHalf, IsUnbranched}
pub use Rattle.split_sections.specs.Common.{AreBalanced, AreCyclesOf, AreStarts, IsSection, has_stray, start_at, start_vertices, starting}
pub use Rattle.split_sections.specs.declared.section_cycles.cycle.Cycle.{Cycle}
pub use Rattle.split_sections.specs.section_cycles.Halves.{AreThere, halves_of}
pub use Rattle.split_sections.specs.section_edges.BelowHalves.{AreSectionHalves, lies_below, lying_below}
pub use Rattle.split_sections.specs.section_edges.LowMates.{low_mates, mates_met, stays_low}
pub use Rattle.std.proofs.Common.{Bool, Err, FitsSigned, Global, IsPermutation, List, None, Ok, OnOk, Option, Result, Some, Vec, [], ap, append-nil, append_assoc, arith, cond, drop, eq-eqb, eqb-true, false, filter, get_or, inl, inr, int_lt, is_eq, is_some, le-ltb, length, lt-ltb, map, nat_cmp, nat_eq, nat_lt, ne_eqb, not, pos, refl, rules, slice_index_or, subst, suc, sym, true, true≢false, unwrap_or, vec_len, zero, ℕ, ℤ, ◌&&◌, ◌*◌, ◌++◌, ◌+◌, ◌-◌, ◌<◌, ◌==◌, ◌||◌, ◌∙◌, ◌∷◌, ◌≡◌, ◌≢◌, ◌≤◌, ◌⊎◌}
pub use Rattle.std.proofs.lemmas.Bool.{not-true, or_right}
pub use Rattle.std.proofs.lemmas.Bool.Decides.{eqb_tells, nat_tests}
pub use Rattle.std.proofs.lemmas.List.{drop_more, length-map, map-append}
pub use Rattle.std.proofs.lemmas.List.Elements.{All-from_recursion, filter-append, recursion_from_All}
pub use Rattle.std.proofs.lemmas.List.Filters.{FiltersInPlace, FiltersInPlace-more_no, FiltersInPlace-more_set}
pub use Rattle.std.proofs.lemmas.List.Sorted.{All-permutation, IsNonDecreasingBy-from_sort_by_key, IsPartitionPoint-from_clause, IsPartitionedBy-ltb, IsPermutation-map}
pub use Rattle.std.specs.BTreeSet.{contains}
pub use Rattle.std.specs.List.{list_any}
