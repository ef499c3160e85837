-- The definitions of this crate that its proofs and other crates cite, passed on from one place. Declares nothing.
pub use Rattle.shapes.specs.Block.{base_of, block_refusal, vector}
unfoldable pub use Rattle.shapes.specs.Block.{block_conditions, block_model}
pub use Rattle.shapes.specs.Faces.{corners_in, edges_of, faces_of_both, finish, items_in, least_lone, start, vertices_in, vertices_of, vertices_on}
unfoldable pub use Rattle.shapes.specs.Faces.{boundary, corners, loops_of}
pub use Rattle.shapes.specs.Fresh.{AreFree, AreLeft, Growing, Needed, Taken, first_such, found, growing, no_such, numbers_after, numbers_left}
unfoldable pub use Rattle.shapes.specs.Fresh.{taken_in}
pub use Rattle.shapes.specs.Lamina.{first_far, first_repeated, lamina_at, lamina_face, lamina_refusal, with_path, with_points, with_ring}
unfoldable pub use Rattle.shapes.specs.Lamina.{lamina_conditions, lamina_model}
pub use Rattle.shapes.specs.Measure.{anchor, area, faces_are_flat, first_vertex, is_plane_of, plane_through, volume_in}
unfoldable pub use Rattle.shapes.specs.Measure.{is_flat, normal, plane_of, six_volume}
pub use Rattle.shapes.specs.Prism.{lifted, next_place, prism_from, prism_refusal, raised_over, riser, top_edge, top_items, with_sides}
unfoldable pub use Rattle.shapes.specs.Prism.{prism_conditions, prism_model, raised, with_side}
pub use Rattle.shapes.specs.Rewriting.{renamed, rewritten, rewritten_row, without_rows}
pub use Rattle.shapes.specs.Vectors.{negated, scaled, towards}
pub use Rattle.shapes.specs.Walks.{loops_in}
unfoldable pub use Rattle.shapes.specs.Walks.{first_edge, leads}
pub use Rattle.shapes.specs.glue.Glue.{face_conditions, glue_refusal, glued_along, has_repeats, is_rotation, is_turned, moves, outline, outline_conditions, partner, partners, renamed_tails, rim, same_points}
unfoldable pub use Rattle.shapes.specs.glue.Glue.{early_glue_conditions, glue_conditions, glue_model}
pub use Rattle.shapes.specs.glue.GlueOps.{closing, closings, fresh_edge, opening}
unfoldable pub use Rattle.shapes.specs.glue.GlueOps.{glue_ops}
pub use Rattle.shapes.specs.glue.Part.{paired, seam}
unfoldable pub use Rattle.shapes.specs.glue.Part.{glued_part}
pub use Rattle.shapes.specs.split.Crossings.{all_cut, cut_edge}
unfoldable pub use Rattle.shapes.specs.split.Crossings.{next_cut, with_crossings}
pub use Rattle.shapes.specs.split.Drawing.{Drawing, FacePairs, all_drawn, all_joined, all_pairs, draw_edge, draw_pair, drawn_between, faces_drawn, from_place, in_one_loop, join_edge, join_pair, ring_free, rings_above, rings_shared, straddling_pairs, stuck_at, undrawn, with_rings}
unfoldable pub use Rattle.shapes.specs.split.Drawing.{draw_next, drawn_pairs, join_next, next_drawn, with_drawings}
pub use Rattle.shapes.specs.split.Opening.{Caps, Opening, all_opened, both_lists, hole_closed, holes_closed, no_caps, opened_row, opened_tail, outer_caps, with_copies, with_rim}
unfoldable pub use Rattle.shapes.specs.split.Opening.{next_opened, opened_along}
pub use Rattle.shapes.specs.split.Places.{goes_up, in_pairs, is_up_and_down, loop_is_cut, pair_count, some_meet, sorted, sorted_in, up_first}
unfoldable pub use Rattle.shapes.specs.split.Places.{is_crossed, is_cut_often, is_place, is_touched, place_pairs, place_point, places, sorted_pairs}
pub use Rattle.shapes.specs.split.Section.{below_half, cycle_from, has_stray_hole, holes_in, least_branched, next_below, section_ends}
unfoldable pub use Rattle.shapes.specs.split.Section.{below_halves, is_hole, section_cycles}
pub use Rattle.shapes.specs.split.Sides.{crosses, crossing_edges, faces_above, reaches_above, reaches_below, some_above, some_below, straddling_faces}
unfoldable pub use Rattle.shapes.specs.split.Sides.{face_is_above, straddles}
pub use Rattle.shapes.specs.split.Split.{cut_conditions, cycle_conditions, later_conditions, number_conditions, opened_at, plane_in_range, sectioning_conditions, split_drawn, split_refusal, straddling_conditions, upper_left}
unfoldable pub use Rattle.shapes.specs.split.Split.{early_split_conditions, first_conditions, section_conditions, split_conditions, split_model}
