-- The lemmas of this crate that other crates cite, passed on from one place. Declares nothing.
pub use Rattle.shapes.proofs.Areas.{area-append, area_push, moved_turned}
pub use Rattle.shapes.proofs.fresh.Rows.{all_where-put_last, at_most_greatest, free_above, get-put_cases, greatest-put_last, greatest_is, greatest_used, none_above}
pub use Rattle.shapes.proofs.fresh.Tests.{first_refusal-append, first_refusal-front, first_refusal-refused, left_numbers_hold, none_found, none_is_lone, none_such, number_fits, numbers_are_left, zero_found}
pub use Rattle.shapes.proofs.glue.Facing.{Facing, side}
pub use Rattle.shapes.proofs.glue.Points.{same_is, same_lists}
pub use Rattle.shapes.proofs.glue.Renamings.{map_stays, none_replaced, renamed_cases, renamed_last, renamed_more, renamed_not, replaced, row_unrenamed, tail_renamed, without_first, without_gone, without_more, without_there}
pub use Rattle.shapes.proofs.glue.Swapped.{map_agree, map_removed, row_stays, row_turns}
pub use Rattle.shapes.proofs.measures.Agreeing.{AgreeOn, IsReplaced, area_kept, areas_kept, content_stays, corner_kept, loops_agree, normal_agrees, replaced_area, replaced_start, rings_agree, rising_one, volume_stays, volume_told}
pub use Rattle.shapes.proofs.measures.FlatFaces.{anchor_on, are_on, corner_told, face_told, flat_closed, list_parts, plane_told, some_direction, told_alike, told_anywhere}
pub use Rattle.shapes.proofs.measures.Paths.{IsClosed, IsPathTo, begins, loop_closed}
pub use Rattle.shapes.proofs.measures.Products.{cross_moved, cross_nothing, no_product}
pub use Rattle.shapes.proofs.measures.Sums.{area_back, area_mates, area_opposed, area_same, count-mates, cross_back, dot_back, halves_cancel, moved_back, none_left, own_opposite, same_volumes, total, total_same, unchanged, volume_append, volume_is, volume_of}
pub use Rattle.shapes.proofs.split.Sorted.{count-sorted, length-in_pairs, length-sorted}
pub use Rattle.shapes.proofs.walks.Corners.{corners_are, half_solid, halves_apart, in_some, on_one, on_some, solid_half, vertices_joined}
pub use Rattle.shapes.proofs.walks.FaceLoops.{AreHalves, different_items, halves_short, items_counted, items_joined, items_there, listed_ring, loops_apart, loops_none, loops_of_apart, loops_to, ring_listed, rings_rise, tail_in}
pub use Rattle.shapes.proofs.walks.FirstEdges.{leads_false, leads_true, one_leads, only_leads}
pub use Rattle.shapes.proofs.walks.SolidFaces.{all_loops_apart, face_listed, face_number, face_of_loop, faces_none, faces_rise, faces_short, faces_to, listed_face, loop_in_solid, loops_short, solid_has_loop, solid_loops, solid_loops_apart}
