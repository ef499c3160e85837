-- What the proofs here take from elsewhere, passed on from one place. Declares nothing.
pub use Rattle.block_machining.specs.Machines.{HasSolids, at, cut_plane, far_side, near_side}
unfoldable pub use Rattle.block_machining.specs.Machines.{alone, bar, joined_again, parted, standing, three_blocks}
pub use Rattle.command_laws.specs.NewFaces.{IsFaceOf, last_face}
pub use Rattle.euler_operators.specs.Common.{Has, Model, Point, origin}
unfoldable pub use Rattle.euler_operators.specs.Common.{after, arc, before, canonical, code, conditions, content, edge_of, effect, empty_model, face_of, first_false, half, has_rings, holds, inverse, is_first, kef, kemr, kev, kfmrh, kvfs_at, loop_of, mate, mef, mekr, merge, mev_at, mev_lone, mfkrh, mvfs, outer, part, point_of, rest, ring_in, ring_out, rotate_to, solid_of, tail, take_outer}
pub use Rattle.plane_split.specs.Machine.{split, split_refusal}
pub use Rattle.shapes.specs.Common.{AreLeft, Needed, Taken}
unfoldable pub use Rattle.shapes.specs.Common.{below_halves, block_conditions, block_model, boundary, corners, draw_next, drawn_pairs, early_glue_conditions, early_split_conditions, face_is_above, first_conditions, glue_conditions, glue_model, is_crossed, is_cut_often, is_flat, is_hole, is_place, is_touched, join_next, lamina_conditions, lamina_model, loops_of, next_cut, next_drawn, next_opened, normal, opened_along, place_pairs, place_point, places, plane_of, prism_conditions, prism_model, raised, section_conditions, section_cycles, sorted_pairs, split_conditions, split_model, straddles, taken_in, with_crossings, with_drawings, with_side}
pub use Rattle.std.proofs.Common.{None, Option, Some, ap, arith, false, is_some, pos, refl, rules, subst, sym, true≢false, ℕ, ℤ, ◌+ℤ◌, ◌+◌, ◌∙◌, ◌≡◌, ◌≢◌}
pub use Rattle.sweeps.specs.Machine.{block, block_refusal}
unfoldable pub use Rattle.sweeps.specs.Measure.{six_volume}
pub use Rattle.sweeps.specs.PlainMachine.{Machine, held, start, undo, undo_refusal}
