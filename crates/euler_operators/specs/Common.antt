-- The definitions of the vocabulary that other crates cite, passed on from one place. Declares nothing.
pub use Rattle.boundary_model.specs.Edits.{insert_after, insert_before, led_over, redirect, without}
pub use Rattle.boundary_model.specs.HalfEdge.{minus, plus}
unfoldable pub use Rattle.boundary_model.specs.HalfEdge.{code, edge_of, half, is_first, mate}
pub use Rattle.boundary_model.specs.Items.{IsApart, IsIn, SameItems, count, head_or, last_or, least, tick}
pub use Rattle.boundary_model.specs.Model.{EdgeRow, FaceRow, LoopContent, LoopRow, Model, cycle, cycle_of, faces_of, has_half, is_number, is_ring_of, items_of, lone, no_edge, no_face, no_loop, no_point, rings_of, round, tail_in}
unfoldable pub use Rattle.boundary_model.specs.Model.{after, arc, before, content, empty_model, face_of, holds, loop_of, outer, point_of, solid_of, tail}
pub use Rattle.boundary_model.specs.Operators.{after_kef, after_kev, after_mef, after_mev, kef_ring, kev_ring, mef_new, mef_old, mekr_ring, mev_ring, put_ring, take_ring}
pub use Rattle.boundary_model.specs.Points.{IsInRange, is_coordinate, is_in_range}
pub use Rattle.boundary_model.specs.Ranges.{IsCutPlane, IsPlane, IsVectorWithin, IsWithin, normal_limit, offset_limit}
pub use Rattle.boundary_model.specs.Rings.{IsPath, IsRing, IsRotation, between, beyond, cut_left, cut_right, joined, onward, orbit, predecessor, successor, upto, walk_to}
unfoldable pub use Rattle.boundary_model.specs.Rings.{canonical, rest, rotate_to}
pub use Rattle.boundary_model.specs.Sound.{Has, HasHalf, IsCycle, IsLoneAt, IsTail, NumbersFit, Reaches, Sound, StandsIn, further, here}
pub use Rattle.boundary_model.specs.Table.{Table, all_in, first_in, get-empty, get-map_rows, get-put, greatest_in, has, map_entries, numbers, same_table, tables}
unfoldable pub use Rattle.boundary_model.specs.Table.{all_where, first_where, get, greatest, map_rows, put, remove}
pub use Rattle.boundary_model.specs.Vectors.{are_opposite, cross, cut_between, cut_multiple, cut_point, cuts_lattice, direction, dot, height, is_above, is_below, is_offset, is_on, lex_less, moved, numbers_of, opposite, origin, same_point, sign_of, vector_of}
pub use Rattle.boundary_model.specs.declared.Content.{Content}
pub use Rattle.boundary_model.specs.declared.Content.TheVariants.{Ring}
pub use Rattle.boundary_model.specs.declared.Corner.{Corner}
pub use Rattle.boundary_model.specs.declared.Corner.TheVariants.{At, Lone}
pub use Rattle.boundary_model.specs.declared.HalfEdge.{HalfEdge}
pub use Rattle.boundary_model.specs.declared.Kind.{Kind}
pub use Rattle.boundary_model.specs.declared.Kind.TheVariants.{Edge, Face, Loop, Solid, Vertex}
pub use Rattle.boundary_model.specs.declared.Plane.{Plane}
pub use Rattle.boundary_model.specs.declared.Point.{Point}
pub use Rattle.boundary_model.specs.declared.Sign.{Sign}
pub use Rattle.boundary_model.specs.declared.Sign.TheVariants.{Above, Below, On}
pub use Rattle.euler_operators.specs.Conditions.{AllHold, Condition, bare_face, corner_known, corner_list, corner_lone, corner_loop, corner_number, corner_tail, differ, face_at, faces_in, faces_known, first_refusal, is_bad_part, is_empty, is_lone, kept_end_bare, lists, lists_all, lone_vertex, need, never, numbers_in_range, parallel, ring_and_face, strictly_rises, torn_edge, verdict}
unfoldable pub use Rattle.euler_operators.specs.Conditions.{conditions, first_false, has_rings}
pub use Rattle.euler_operators.specs.Effect.{corner_of, cycle_or_lone, edge_row, face_to_outer, faces_to_solid, head_or_zero, kev_corner, kev_corner_mate, loop_to_face, moved_tail, where_held, with_before, with_tails}
unfoldable pub use Rattle.euler_operators.specs.Effect.{effect, inverse, kef, kemr, kev, kfmrh, kvfs_at, mef, mekr, merge, mev_at, mev_lone, mfkrh, mvfs, part, ring_in, ring_out, take_outer}
