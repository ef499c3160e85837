-- What the proofs here take from elsewhere, passed on from one place. Declares nothing.
pub use Rattle.arena_rows.proofs.Common.{CutFacts, IsFree, IsLive-next, IsRefilled, JoinFacts, after_is, after_move, after_put, bare_as, before_is, can_put_again, can_put_new, clear_as, clear_bare_as, content_row, cut_facts, cut_loose_as, cut_to_as, edge_as, edge_fits, edge_has, edge_has_room, edge_keeps_room, edges_ok, ends_move, ends_put, entry_empty, entry_in, entry_same, face_count_is, face_row_of, fill_as, fits-same, fits-write, fits_within, free_edge, greatest_edge, greatest_row, grown_edges, grown_faces, grown_loops, grown_none, grown_solids, grown_vertices, half_there, has-row, has_is, has_told, indexed_faces, indexed_grown, indexed_loops, indexed_more_faces, indexed_more_loops, indexed_refilled, indexed_same_faces, indexed_solids, join_facts, join_kept_as, join_loops_as, join_loose_as, kept_bare, live_known, loop_of_is, loops_write, loose_after, loose_before, more_edges, more_faces, more_loops, more_vertices, next_alone, next_before, next_number, next_ring_told, next_some, no_stand_free, none_told, not_zero, only_told, outer_row_of, owner_kept, owner_there, points_write, read_row, refilled_at, refilled_elsewhere, ring_past_told, rings_counted, rooms_ok, row_here, row_not_zero, row_of, row_within, same_loop, solid_row_of, stand_moved, store_faces, store_loops, store_solids, store_vertices, table_of-put, table_of-remove, tail_as, tail_is, tied_faces, tied_loops, tied_solids, tied_vertices}
pub use Rattle.arena_rows.specs.Common.{HasEntry, IsWhole, arena_of, face_row, is_edge, label, live, loop_row, owned, put_vertex, solid_row, stored_content, table_of}
pub use Rattle.arena_rows.specs.RawRings.{or_zero, spot}
pub use Rattle.arena_rows.specs.RawRows.{has_row, row_at}
pub use Rattle.arena_rows.specs.declared.rows.StoredContent.TheVariants.{At, Empty, Lone}
pub use Rattle.boundary_model.proofs.Halves.{code-half}
pub use Rattle.boundary_model.specs.HalfEdge.{code}
pub use Rattle.boundary_model.specs.Model.{LoopRow, Model, is_ring_of, no_loop, no_point, outer, rings_of}
unfoldable pub use Rattle.boundary_model.specs.Model.{face_of, point_of}
pub use Rattle.boundary_model.specs.Points.{IsInRange}
pub use Rattle.boundary_model.specs.Table.{get, put}
pub use Rattle.std.proofs.Common.{Bool, List, None, Option, Some, [], ap, arith, cond, false, is_some, length, nat_eq, not, refl, subst, sym, true, true≢false, unwrap_or, ℕ, ◌&&◌, ◌∙◌, ◌∷◌, ◌≡◌}
pub use Rattle.std.specs.FinMap.{contains_key}
