-- What the proofs here take from elsewhere, passed on from one place. Declares nothing.
pub use Rattle.euler_conditions.proofs.Coded.{coded, edge_fits}
pub use Rattle.euler_conditions.proofs.Known.{filled, in_a_loop}
pub use Rattle.euler_conditions.specs.Store.{IsNextRing, Tells}
pub use Rattle.euler_laws.proofs.Common.{IsIn-from_listed, all_hold, all_where-rises, counted_once, first_listed, halves_of_edge, listed-from_in, listed_at, listed_passes, not_found, passes_listed, rest_listed, rising, verdict_failed, verdict_passed, within}
pub use Rattle.euler_operators.proofs.Common.{IsApart-images, IsIn-filter, IsIn-map, IsRotation-permutation, SameItems-from_permutation, after_equal, after_greater, and_false, code-half, coordinate_is, coordinate_within, coordinates, count-append, count-filter, cut_back, edge_of-code, edge_of-mate, equal_is, filter_passes, first_is_plus, fits, half-code, held, held_is, held_short, in-holds, is_first-code, less_or_same, mate_minus, mate_plus, opposite_turned, or_false, or_true, plus_row, product_within, rotate_to-rotates, row_some, sum_within, tick_same, turned_equal, turned_greater}
pub use Rattle.euler_operators.specs.Common.{Above, Below, Condition, HalfEdge, Has, HasHalf, IsApart, IsCutPlane, IsIn, IsInRange, IsWithin, LoopContent, Model, On, Plane, Point, Ring, Sign, Sound, StandsIn, Table, are_opposite, before, code, content, cut_between, cut_point, cuts_lattice, cycle, cycle_of, differ, edge_of, face_at, faces_of, first_refusal, half, has_half, height, is_coordinate, is_first, is_number, is_on, items_of, least, lex_less, lists, lone, loop_of, mate, minus, need, opposite, outer, plus, rings_of, rotate_to, same_point, sign_of, solid_of, strictly_rises, tail, tick, verdict}
unfoldable pub use Rattle.euler_operators.specs.Common.{point_of}
pub use Rattle.euler_operators.specs.declared.Content.TheVariants.{Lone}
pub use Rattle.euler_operators.specs.declared.Refusal.{Refusal}
pub use Rattle.shapes.proofs.Common.{face_of_loop, first_refusal-append, first_refusal-front, first_refusal-refused, half_solid, halves_apart, items_counted, items_joined, items_there, length-in_pairs, length-sorted, listed_face, solid_half, solid_loops, vertices_joined}
pub use Rattle.shapes.specs.Common.{Taken, crosses, crossing_edges, cut_conditions, edges_of, faces_are_flat, finish, first_such, goes_up, in_pairs, is_up_and_down, items_in, loop_is_cut, loops_in, no_such, number_conditions, numbers_left, pair_count, plane_in_range, reaches_above, reaches_below, sectioning_conditions, some_meet, sorted, sorted_in, start, straddling_conditions, straddling_faces, taken_in, up_first, vertices_in, vertices_on}
unfoldable pub use Rattle.shapes.specs.Common.{boundary, corners, early_split_conditions, first_conditions, is_crossed, is_cut_often, is_place, is_touched, loops_of, place_pairs, place_point, places, sorted_pairs, straddles}
pub use Rattle.solid_measure.proofs.face_walks_laws.Above.{AllAbove, Rising, above}
pub use Rattle.solid_measure.proofs.face_walks_laws.CycleWalks.{comes_back, cycle_apart, from_least, goes_on, item_in, item_there, start_is, to_come}
pub use Rattle.solid_measure.proofs.face_walks_laws.RingWalks.{next_ring, no_ring, rings_from_zero}
pub use Rattle.split_checks.specs.Common.{AreCrossing, AreFacesAlong, AreNoted, ArePlacesAlong, AreThere, AreTold, HasFlatFaces, IsCrossing, IsFaceAlong, IsFaceMet, IsMeeting, IsSide, IsSolidMet, Key, all_pairs, all_places, codes, crossings_met, cut_at, early_refusal, entries_of, face_met, faces_in, has_flaw, is_off, leads_across, paired_face, places_of, shows, touches, with_side}
pub use Rattle.split_checks.specs.cut_places.Crossings.{crossings_in}
pub use Rattle.split_checks.specs.cut_places.Meetings.{IsMet, IsRound, unmarked}
pub use Rattle.split_checks.specs.cut_places.Noted.{AreSides}
pub use Rattle.split_checks.specs.cut_places.Sides.{lies, opposite_signs, reaches, same_sign, side_reached, some_lie, some_start}
pub use Rattle.split_checks.specs.declared.begin_checks.flaws.Flaw.TheVariants.{CutOften, Touched}
pub use Rattle.split_checks.specs.declared.cut_places.found.FaceMet.{FaceMet}
pub use Rattle.split_checks.specs.declared.cut_places.found.Looked.{Looked}
pub use Rattle.split_checks.specs.declared.cut_places.found.Met.{Met}
pub use Rattle.split_checks.specs.declared.cut_places.noted.Noted.{Noted}
pub use Rattle.split_checks.specs.declared.cuts.CutEdge.{CutEdge}
pub use Rattle.split_checks.specs.declared.cuts.Pair.{Pair}
pub use Rattle.split_checks.specs.place_order.Order.{are_crossed, key}
pub use Rattle.std.proofs.Common.{Bool, Equal, Err, FitsSigned, Global, Greater, IfErr, IfOk, IfSome, IsPermutation, IsSorted, Less, List, MatchOption, None, Ok, OnErr, OnOk, Option, Ordering, Result, Some, Vec, [], ap, append-nil, append_assoc, arith, cond, drop, drop_at, eq-eqb, eqb-true, false, filter, get_or, inl, inr, int_cmp, int_eq, int_le, int_lt, is_eq, is_gt, is_none, is_ok, is_some, length, length-append, lt-ltb, map, min, nat_cmp, nat_eq, nat_le, nat_lt, negsuc, not, pos, refl, slice_index_or, slice_set, subst, suc, sym, take, take_at, true, true≢false, vec_len, zero, ℕ, ℤ, ◌%◌, ◌&&◌, ◌*ℤ◌, ◌++◌, ◌+ℤ◌, ◌+◌, ◌-◌, ◌/◌, ◌<◌, ◌||◌, ◌∙◌, ◌∷◌, ◌≡◌, ◌≢◌, ◌≤◌}
pub use Rattle.std.proofs.lemmas.Bool.{and_parts, or_parts}
pub use Rattle.std.proofs.lemmas.Bool.Decides.{nat_tests}
pub use Rattle.std.proofs.lemmas.Int.{fits_signed_from_abs, to_z-of_z}
pub use Rattle.std.proofs.lemmas.List.{drop-map, get_or-map, length-map, map-append, take-map, take_rest}
pub use Rattle.std.proofs.lemmas.List.Elements.{filter-append}
pub use Rattle.std.proofs.lemmas.List.Folds.{list_any-append}
pub use Rattle.std.proofs.lemmas.List.Sorted.{IsNonDecreasingBy-from_sort, length_permutation, list_any-IsPermutation, searched}
pub use Rattle.std.specs.BTreeMap.{insert_entry}
pub use Rattle.std.specs.List.{list_all, list_any}
pub use Rattle.std.specs.List.Sorted.{IsBinarySearchResult, IsNonDecreasing}
