-- What the proofs here take from elsewhere, passed on from one place. Declares nothing.
pub use Rattle.arena_rows.specs.Common.{AreChained, AreEdgeRings, AreEdges, AreIndexed, AreLabelled, AreLabelledBut, AreLoops, AreRings, ArenaRows, CanHandOut, Fits, HasEntry, HasGrown, HaveMoreRoom, HaveRoom, IsAbove, IsBelow, IsChain, IsClear, IsHandedOut, IsNew, IsNextFace, IsNextItem, IsNextNumber, IsNextRing, IsReused, IsRingOf, IsTable, IsTakenBack, IsUsed, IsWhole, Owners, OwnersHaveGrown, PartlyLabelled, RowsAreTied, Spots, StandsAt, StandsFor, Store, asleep, both_tails, but_label, cut, edge_room, edge_row, empty_store, face_numbers, face_row, follower, gained, has_number, has_room, head_at, head_in, held_row, in_loops, is_edge, is_face_of, is_in, is_of, is_owner, items, join, label, labelled, leading_back, leading_on, link_at, live, loop_at, loop_row, loose_ring, loose_row, loosened, lost, map_row, map_spot, names, next, next_in, no_owners, only_item, owned, owner_in, owners_of, relinked, rows_of, solid_numbers, solid_row, spliced, store_of, stored_content, table_of, tail_at, take, view_of, with_links, with_loop, within, woken}
unfoldable pub use Rattle.arena_rows.specs.Common.{clear, codes, cut_loose, cut_to, edges_end, fill, join_loops, join_loose, linked_in, linked_out, loose_key, map_in_loops, put_edge, ring, take_edge}
pub use Rattle.arena_rows.specs.declared.owner_chains.rows.Head.{Head}
pub use Rattle.arena_rows.specs.declared.owner_chains.rows.Link.{Link}
pub use Rattle.arena_rows.specs.declared.ring_spots.labels.Labels.{Labels}
pub use Rattle.arena_rows.specs.declared.rows.FaceCell.{FaceCell}
pub use Rattle.arena_rows.specs.declared.rows.LoopCell.{LoopCell}
pub use Rattle.arena_rows.specs.declared.rows.StoredContent.{StoredContent}
pub use Rattle.arena_rows.specs.declared.rows.StoredContent.TheVariants.{At, Empty, Lone}
unfoldable pub use Rattle.arena_rows.specs.ring_spots.Spots.{set_tail}
pub use Rattle.boundary_model.proofs.Cuts.{IsApart-cut, IsApart-joined, IsIn-cut, IsRing-cut, IsRing-join, count-cut, count-joined, splice_elsewhere}
pub use Rattle.boundary_model.proofs.Halves.{mate-mate, mate_cases, mate_minus, mate_plus, minus_row, plus_other, plus_row}
pub use Rattle.boundary_model.proofs.Lists.{IsIn_or_not, count-append, least_in, tick_le, tick_other, tick_same}
pub use Rattle.boundary_model.proofs.Members.{IsIn_one, length_below, same_length}
pub use Rattle.boundary_model.proofs.Models.{holds_in, in-holds}
pub use Rattle.boundary_model.proofs.Places.{walk_to_more}
pub use Rattle.boundary_model.proofs.Rings.{IsIn_successor, IsPath-agree, canonical-orbit, next_is_successor, orbit_from, predecessor-successor, successor-predecessor}
pub use Rattle.boundary_model.proofs.Rotations.{IsIn_head, canonical-canonical, canonical_one, count-canonical, count-rotate_to, head_canonical, length-rotate_to}
pub use Rattle.boundary_model.proofs.Tables.{all_where_none, and_left, and_right, count-all_where, find_here, find_later, first_where_is, first_where_zero, get-put_here, less_means, passes, put-remove, row_some}
pub use Rattle.boundary_model.proofs.Tests.{and_false, and_first, and_second}
pub use Rattle.boundary_model.specs.HalfEdge.{is_first, mate, minus, plus}
unfoldable pub use Rattle.boundary_model.specs.HalfEdge.{code, edge_of}
pub use Rattle.boundary_model.specs.Items.{IsApart, IsIn, count, head_or, least, tick}
pub use Rattle.boundary_model.specs.Model.{EdgeRow, FaceRow, LoopRow, Model, cycle, cycle_of, faces_of, has_half, holds, is_ring_of, items_of, lone, no_edge, no_face, no_loop, rings_of, tail_in}
unfoldable pub use Rattle.boundary_model.specs.Model.{after, before, content, empty_model, face_of, loop_of, outer, solid_of, tail}
pub use Rattle.boundary_model.specs.Rings.{IsRing, between, beyond, canonical, cut_left, cut_right, joined, orbit, predecessor, rest, rotate_to, splice, successor, walk_to}
pub use Rattle.boundary_model.specs.Table.{Table, all_in, empty, first_where, get-empty, get-map_rows, get-put, get-remove, get-tabulate, map_rows, put, remove, same_table, tabulate}
unfoldable pub use Rattle.boundary_model.specs.Table.{all_where, get}
pub use Rattle.boundary_model.specs.declared.HalfEdge.{HalfEdge}
pub use Rattle.boundary_model.specs.declared.Kind.{Kind}
pub use Rattle.boundary_model.specs.declared.Point.{Point}
pub use Rattle.raw_cells.specs.Numbers.{IsLast, IsNext, uses}
pub use Rattle.raw_cells.specs.Rows.{has_row, row_at}
pub use Rattle.raw_ring.proofs.Mapping.{IsLive-next}
pub use Rattle.raw_ring.specs.Rings.{IsPermutation, RingMap, Spot, awake, label_of, next_of, of_spot, or_zero, put_spot, ring_of_one, set_label, spot, tail_of, with_next, with_room, with_spot}
pub use Rattle.std.proofs.Common.{Bool, Err, List, None, Ok, OnErr, OnOk, Option, Result, Some, T, [], ap, arith, cond, eq-eqb, eqb, eqb-true, false, get_or-set_other, get_or-set_same, inl, inr, is_some, le-leb, length, length-append, length-set, lt-ltb, nat_cmp, nat_eq, nat_le, nat_lt, ne_eqb, not, option_map, refl, slice_index_or, subst, suc, sym, true, true≢false, unwrap_or, vec_capacity, zero, ℕ, ◌&&◌, ◌*◌, ◌++◌, ◌+◌, ◌-◌, ◌/◌, ◌<◌, ◌∙◌, ◌∷◌, ◌≡◌, ◌≢◌, ◌≤◌, ◌⊎◌}
pub use Rattle.std.proofs.lemmas.Bool.{and_from, cases_eq, false_from_ne_true, false≢true}
pub use Rattle.std.proofs.lemmas.Bool.Decides.{eqb_tells, leb_tells, nat_tests}
pub use Rattle.std.proofs.lemmas.Option.{same_Some}
pub use Rattle.std.specs.Cmp.{nat_cmp_total}
pub use Rattle.std.specs.FinMap.{contains_key, get-entries, get-from_entries, insert, nat_cmp-IsAntisymmetric, same_map}
