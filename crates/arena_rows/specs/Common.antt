-- The definitions of this crate that its proofs and other crates cite, collected in one place. This file declares nothing.
pub use Rattle.arena_rows.specs.Codes.{coded_store}
pub use Rattle.arena_rows.specs.Rows.{map_row, names, table_of}
pub use Rattle.arena_rows.specs.Store.{HasGrown, IsGreatest, IsLoose, IsNextFace, IsNextNumber, IsNextRing, Store, Tells, cut, empty_store, has_number, has_room, held_row, is_face_of, join, loose_ring, loosened, only_item, put_face, put_solid, put_vertex, set_content, set_face, set_outer, set_solid, take_face, take_loop, take_solid, take_vertex, with_lone, within}
unfoldable pub use Rattle.arena_rows.specs.Store.{clear, cut_loose, cut_to, fill, join_loops, join_loose, loose_key, put_edge, put_loop, set_tail, take_edge}
pub use Rattle.arena_rows.specs.View.{ArenaRows, AreIndexed, AreLoops, Fits, HasEntry, IsWhole, RowsAreTied, StandsAt, arena_of, face_numbers, face_row, loop_row, solid_numbers, solid_row, store_of, stored_content}
pub use Rattle.arena_rows.specs.owner_chains.Chains.{AreChained, IsAbove, IsBelow, IsClear, follower, gained, head_at, head_in, is_of, items, leading_back, leading_on, link_at, lost, next_in, owner_in, owners_of, relinked, view_of}
unfoldable pub use Rattle.arena_rows.specs.owner_chains.Chains.{linked_in, linked_out}
pub use Rattle.arena_rows.specs.owner_chains.Owners.{IsNextItem, Owners, OwnersHaveGrown, is_owner, no_owners, owned, put, take}
pub use Rattle.arena_rows.specs.ring_spots.Edges.{AreEdgeRings, AreEdges}
pub use Rattle.arena_rows.specs.ring_spots.Labels.{AreLabelled, AreLabelledBut, CanHandOut, HaveMoreRoom, HaveRoom, IsChain, IsHandedOut, IsNew, IsReused, IsTable, IsTakenBack, IsUsed, StandsFor, but_label, in_loops, loop_at, rows_of, with_loop}
unfoldable pub use Rattle.arena_rows.specs.ring_spots.Labels.{map_in_loops}
pub use Rattle.arena_rows.specs.ring_spots.Last.{is_edge}
pub use Rattle.arena_rows.specs.ring_spots.SpotTables.{both_tails, edge_room, edge_row, loose_row}
pub use Rattle.arena_rows.specs.ring_spots.Spots.{AreRings, PartlyLabelled, IsRingOf, Spots, asleep, is_in, label, labelled, live, map_spot, next, spliced, tail_at, with_links, woken}
unfoldable pub use Rattle.arena_rows.specs.ring_spots.Spots.{codes, edges_end, ring}
