-- What the proofs here take from elsewhere, passed on from one place. Declares nothing.
pub use Rattle.euler_laws.proofs.Common.{Around, Fan, IsIn-from_listed, KefGoes, KemrGoes, Leads, MakeGoes, MefGoes, MevGoes, all_where-rises, apart_xs, arc_is, counted_once, cycle_is, edge_row_plus, effect_keeps_sound, face_is, fan_of, first_listed, half_after, half_is, halves_of_edge, kef_accepted, leads_first, leads_on, leads_one, leads_sound, listed-from_in, listed_front, listed_passes, loop_after, loop_is, loop_row, map_twice, mapped_some, mef_accepted, mev_accepted, mfkrh_accepted, no_zero, other_last, passes_listed, point_row, put_apart, rises_on, rises_over, where_held_none, where_held_there, none_in}
pub use Rattle.euler_laws.specs.Laws.{AreAccepted, effects}
pub use Rattle.euler_operators.proofs.Common.{AllPairs-from_apart, Contains-from_in, IsApart-map, IsIn-get_or, IsIn-map, IsIn_last, IsIn_one, IsIn_or_not, IsIn_push, IsPath-append, IsPath-left, IsPath-right, IsPath_last, IsRing-same, after_at, all_where_none, apart_back, apart_within, before_at, canonical-rotates, canonical_same, code-half, content_row, count-append, count-canonical, count-filter, count-map, count-reverse, count-rotate_to, cycle_sound, cycle_there, face_row, filter_passes, first_where_is, first_where_zero, from_map, get-put_here, get-put_other, holds-none, holds_in, in-holds, in_use_within, insert_before_at, insert_before_same, least_in, least_same, map-put, map_alike, map_one, map_same, mate-mate, mate_minus, mate_plus, mate_there, minus_row, minus_tail_row, nat_eq_itself, nat_eq_turned, none-holds, not_held, orbit_from, orbit_ring, other_loop, plus_other, plus_row, plus_tail_row, put-put, put_same, rest_at, rest_same, ring_split, rotate_to-rotates, rotate_to_is, row_of, row_some, same_face, successor_head, successor_last, successor_same, tail_row, tick_le, tick_other, tick_same, upto_other, zero_first_where}
pub use Rattle.euler_operators.specs.Common.{EdgeRow, FaceRow, Has, HasHalf, IsApart, IsIn, IsPath, IsRing, LoopContent, LoopRow, Model, Plane, Point, SameItems, Sound, Table, arc, between, beyond, canonical, content, count, cycle, cycle_of, cycle_or_lone, edge_row, face_at, face_of, first_false, get-map_rows, half, head_or, holds, insert_before, is_first, is_number, items_of, last_or, least, lists, lone, loop_to_face, mate, minus, no_edge, no_face, onward, orbit, plus, point_of, rest, rings_of, rotate_to, round, same_table, strictly_rises, successor, tables, tail_in, tick, torn_edge, upto, where_held, with_before, with_tails}
unfoldable pub use Rattle.euler_operators.specs.Common.{after, edge_of, effect, kef, kemr, loop_of, mef, mev_at, mfkrh, outer, solid_of, tail}
pub use Rattle.euler_operators.specs.declared.Op.TheVariants.{Kef, Kemr, Mfkrh}
pub use Rattle.shapes.proofs.Common.{get-put_cases, map_stays, row_stays, row_turns, row_unrenamed, without_first, without_gone, without_more, without_there, zero_found}
pub use Rattle.shapes.specs.Common.{AreFree, AreLeft, Caps, Opening, Taken, all_opened, below_half, both_lists, cycle_from, edges_of, first_such, is_hole, next_below, next_place, numbers_after, opened_row, opened_tail, renamed, rewritten_row, section_ends, with_copies, with_rim, without_rows}
unfoldable pub use Rattle.shapes.specs.Common.{below_halves, next_opened, opened_along, section_cycles}
pub use Rattle.split_opening_laws.specs.caps.CapOps.{joinings, partings}
unfoldable pub use Rattle.split_opening_laws.specs.caps.CapOps.{cap_ops}
pub use Rattle.split_opening_laws.specs.caps.Caps.{joined_loop}
unfoldable pub use Rattle.split_opening_laws.specs.caps.Caps.{capped, joined_part}
pub use Rattle.split_opening_laws.specs.caps.Strips.{HasStrips, strip_loop, strip_riser}
pub use Rattle.split_opening_laws.specs.cycles.Permuting.{Permutes}
pub use Rattle.split_opening_laws.specs.cycles.SectionCycles.{AreApartCycles, AreOf, AreSectionCycles, IsBelowHalf, IsSectionCycle, IsUnbranched}
pub use Rattle.split_opening_laws.specs.sections.InTurn.{AreBetween, CanBeOpenedInTurn, halves_in, upper_faces}
pub use Rattle.split_opening_laws.specs.strips.Opened.{CanBeOpened}
pub use Rattle.split_opening_laws.specs.strips.StripOps.{copy_ops, cut_strip, place_before, raise_copy, strip_ops}
pub use Rattle.split_opening_laws.specs.strips.Strips.{copied, copy_riser, put_out, raised_edge, raised_items, raised_loop, riser_edge, strip_edge, strip_face, strip_row, with_rows}
unfoldable pub use Rattle.split_opening_laws.specs.strips.Strips.{copies_raised, strips_cut}
pub use Rattle.std.proofs.Common.{Bool, List, None, Option, Some, [], ap, append-nil, append_assoc, arith, cond, eq-eqb, eqb-true, false, filter, flat_map, fold, get_or, inl, inr, is_some, length, length-append, lt-ltb, map, nat_eq, nat_lt, ne_eqb, not, option_map, refl, reverse, subst, suc, sym, take, take_all, true, true≢false, unwrap_or, zero, ℕ, ◌&&◌, ◌*◌, ◌++◌, ◌+◌, ◌-◌, ◌<◌, ◌∙◌, ◌∷◌, ◌≡◌, ◌≢◌, ◌≤◌, ◌⊎◌}
pub use Rattle.std.proofs.Math.Seq.{take-suc}
pub use Rattle.std.proofs.lemmas.Bool.{and_parts, and_right, cases_Bool, cases_lt, cases_order, false_from_ne_true, le-ltb, ltb-false, not-true}
pub use Rattle.std.proofs.lemmas.Bool.Decides.{eqb_tells, nat_tests}
pub use Rattle.std.proofs.lemmas.List.{get_or-map, get_or_default, length-map, length-reverse, map-append, reverse-append}
pub use Rattle.std.proofs.lemmas.Simd.{map-map}
pub use Rattle.sweeps_laws.proofs.lamina.Lists.{canonical_first, numbers_last}
pub use Rattle.sweeps_laws.proofs.prism.Sides.{fits, next_inner, next_last}
pub use Rattle.sweeps_laws.proofs.prism.Steps.{edge_plus}
