-- The lemmas of this crate that other crates cite, passed on from one place. Declares nothing.
pub use Rattle.arena_rows.proofs.CutStore.{cut_facts, cut_loose_as, cut_to_as, join_facts, join_kept_as, join_loops_as, join_loose_as, kept_bare, next_alone, next_before, row_of}
pub use Rattle.arena_rows.proofs.Cutting.{CutFacts, JoinFacts}
pub use Rattle.arena_rows.proofs.EdgeRows.{edge_as, gone_as, tail_as}
pub use Rattle.arena_rows.proofs.Empty.{edge_keeps_room, greatest_edge, greatest_row, has_told, next_number, tied-empty, view-empty}
pub use Rattle.arena_rows.proofs.Filling.{bare_as, bare_row, clear_as, clear_bare_as, content-clear, fill_as, has-clear}
pub use Rattle.arena_rows.proofs.Indexed.{after_move, after_put, after_take, can_put_again, can_put_new, ends_move, ends_put, ends_take, face_count_is, grown_none, indexed-empty, indexed_faces, indexed_grown, indexed_loops, indexed_more_faces, indexed_more_loops, indexed_refilled, indexed_same_faces, indexed_solids, owner_kept, owner_there, rings_counted}
pub use Rattle.arena_rows.proofs.Nexts.{next_face, next_ring_told, none_told, only_told, ring_past_told}
pub use Rattle.raw_ring.proofs.Mapping.{IsLive-next}
pub use Rattle.arena_rows.proofs.Rooms.{edges_ok, fits-same, grown_edges, grown_faces, grown_loops, grown_solids, grown_vertices, more_edges, more_faces, more_loops, more_vertices, rooms_ok}
pub use Rattle.arena_rows.proofs.Stands.{after_is, before_is, content_row, edge_fits, entry_in, face_row_of, half_there, loop_of_is, loose_after, loose_before, outer_row_of, solid_row_of, tail_is}
pub use Rattle.arena_rows.proofs.Tellings.{same_loop}
pub use Rattle.arena_rows.proofs.Views.{fits-write, fits_within, has-row, has_is, not_zero, read_row, row_not_zero, row_within, table_of-put, table_of-remove}
pub use Rattle.arena_rows.proofs.Writes.{IsRefilled, entry_empty, entry_same, loops_write, no_stand_free, none_in_bare, points_write, refilled_at, refilled_elsewhere, row_here, stand_moved, store_faces, store_loops, store_solids, store_vertices, tied_faces, tied_loops, tied_solids, tied_vertices}
pub use Rattle.arena_rows.proofs.ring_spots_laws.EdgeSpots.{IsFree, edge_alone, free_edge}
pub use Rattle.arena_rows.proofs.ring_spots_laws.RingMaps.{known-empty, live_known, next_some, spot-empty}
pub use Rattle.arena_rows.proofs.ring_spots_laws.SpotTables.{edge_has, edge_has_room}
