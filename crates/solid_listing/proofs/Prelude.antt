-- What the proofs here take from elsewhere, passed on from one place. Declares nothing.
pub use Rattle.euler_conditions.specs.Store.{IsGreatest, IsNextNumber, Store}
pub use Rattle.euler_operators.proofs.Common.{and_first, and_second, code-half, content_row, edge_of-code, face_row, held_row, in-holds, is_first-code, lone_there, mate_there, minus_row, minus_tail_row, one_or_more, outer_row, plus_row, plus_tail_row, point_row, solid_row}
pub use Rattle.euler_operators.specs.Common.{Edge, Face, HalfEdge, Has, HasHalf, IsIn, Kind, Loop, LoopContent, Model, NumbersFit, Point, Solid, Sound, Table, Vertex, code, content, count, cycle, cycle_of, face_of, get, has, has_half, is_coordinate, is_in_range, is_number, items_of, lone, loop_of, minus, no_point, numbers, outer, plus, rings_of, same_table, solid_of, tail}
unfoldable pub use Rattle.euler_operators.specs.Common.{edge_of, empty_model, half, is_first, point_of}
pub use Rattle.solid_listing.specs.Common.{Gathers, Tells, coefficient_words, content_words, half_word, kind_lines, kinds, line, line_text, or_empty, outgoing, spaced, text_of}
unfoldable pub use Rattle.solid_listing.specs.Common.{lines, listing}
pub use Rattle.solid_listing.specs.Listing.{numbers_of, point_words}
pub use Rattle.solid_listing.specs.Writing.{Outgoing, Puts, Stops}
pub use Rattle.solid_walks.proofs.face_walks_laws.Above.{above, all_above, all_above_members, member, next_above, none_above}
pub use Rattle.solid_walks.proofs.face_walks_laws.CycleWalks.{comes_back, from_least, goes_on, item_in, item_there, to_come}
pub use Rattle.solid_walks.proofs.face_walks_laws.HalfCodes.{code_plus, codes_differ, codes_same, mate_plus, plus_there}
pub use Rattle.solid_walks.proofs.face_walks_laws.RingWalks.{member_rings, next_ring, no_ring, rings_from_zero}
pub use Rattle.solid_walks.proofs.face_walks_laws.TableWalks.{member_numbers, rising_numbers}
pub use Rattle.std.proofs.Common.{Bool, Err, List, None, Ok, Option, Result, Some, [], ap, append-nil, append_assoc, arith, codes, cond, decimal, drop, false, flat_map, get_or, inl, inr, is_some, length, map, nat_eq, nat_lt, negsuc, not, pos, refl, subst, suc, sym, take, take-append-drop, true, true≢false, unwrap_or, ℕ, ℤ, ◌%◌, ◌&&◌, ◌++◌, ◌+◌, ◌-◌, ◌/◌, ◌<◌, ◌^◌, ◌||◌, ◌∙◌, ◌∷◌, ◌≡◌, ◌≢◌, ◌≤◌}
pub use Rattle.std.proofs.KnownBytes.{Appends-nil, Appends-trans}
pub use Rattle.std.proofs.lemmas.Bool.{and_from}
pub use Rattle.std.proofs.lemmas.Bool.Decides.{eqb_tells, nat_tests}
pub use Rattle.std.proofs.lemmas.Fmt.{decimal_by_steps, decimal_injective, signed_decimal_injective}
pub use Rattle.std.proofs.lemmas.List.{drop_more, take_rest}
pub use Rattle.std.proofs.lemmas.Result.{err_from_is_err_and}
pub use Rattle.std.specs.Fmt.{signed_decimal}
pub use Rattle.std.specs.Io.KnownBytes.{Appends}
