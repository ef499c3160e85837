-- What the proofs here take from elsewhere, passed on from one place. Declares nothing.
pub use Rattle.euler_laws.proofs.Common.{IsIn-from_listed, effect_keeps_sound, first_listed, join_goes, kef_goes, kemr_goes, kev_goes, kfmrh_goes, kvfs_goes, lone_goes, mef_goes, merge_goes, mev_goes, mfkrh_goes, mixed_first, mixed_second, mvfs_goes, outer_goes_so, part_goes, rest_listed, ring_in_goes, ring_out_goes, same_point, same_tail}
pub use Rattle.euler_laws.proofs.faces.Kfmrh.{KillGoes, MakeGoes}
pub use Rattle.euler_laws.proofs.faces.OneSolid.{MvfsGoes}
pub use Rattle.euler_laws.proofs.faces.RingIn.{RingGoes}
pub use Rattle.euler_laws.proofs.faces.Solids.{KvfsGoes}
pub use Rattle.euler_laws.proofs.kemr.KemrSound.{KemrGoes}
pub use Rattle.euler_laws.proofs.kev.KevSound.{KevGoes}
pub use Rattle.euler_laws.proofs.mef.KefSound.{KefGoes}
pub use Rattle.euler_laws.proofs.mef.MefSound.{MefGoes}
pub use Rattle.euler_laws.proofs.mekr.Mekr.{mekr_is}
unfoldable pub use Rattle.euler_laws.proofs.mekr.MekrSound.{join_loops}
pub use Rattle.euler_laws.proofs.mekr.MekrSpots.{JoinGoes}
pub use Rattle.euler_laws.proofs.merge.Merge.{MergeGoes}
pub use Rattle.euler_laws.proofs.merge.Part.{PartGoes}
pub use Rattle.euler_laws.proofs.mev.MevLoneSound.{LoneGoes}
pub use Rattle.euler_laws.proofs.mev.MevSound.{MevGoes}
pub use Rattle.euler_laws.proofs.shared.Faces.{LoopMoves, OuterSet, face_moved, solid_same}
pub use Rattle.euler_laws.proofs.shared.Parts.{row_other}
pub use Rattle.euler_laws.proofs.shared.Rows.{where_held_none}
pub use Rattle.euler_laws.proofs.shared.Same.{one_solid_round, solid_at-same}
pub use Rattle.euler_laws.proofs.shared.TwoRows.{face_same, row_else, row_second}
pub use Rattle.euler_operators.proofs.Common.{IsIn_head, IsIn_or_not, IsIn_rest, from_map, get-put_here, get-put_other, get-remove_here, get-remove_other, item_loop, item_there, loop_there, mate_there, minus_row, minus_tail_row, or_true, other_loop, plus_row, plus_tail_row, row_elsewhere, same_content, same_edge, same_face, same_outer, same_solid, solid_row, tick_other}
pub use Rattle.euler_operators.specs.Common.{At, EdgeRow, FaceRow, Has, HasHalf, IsIn, IsLoneAt, Lone, LoopContent, LoopRow, Model, Point, Sound, StandsIn, Table, count, cycle, cycle_or_lone, dot, face_at, face_to_outer, faces_of, faces_to_solid, get-map_rows, insert_before, items_of, lists, lone, lone_vertex, loop_to_face, minus, moved_tail, plus, same_table, where_held, with_before, with_tails, without}
unfoldable pub use Rattle.euler_operators.specs.Common.{arc, canonical, code, content, edge_of, effect, face_of, first_false, holds, kef, kemr, kev, kfmrh, kvfs_at, loop_of, mate, mef, merge, mev_at, mev_lone, mfkrh, mvfs, outer, part, point_of, ring_in, ring_out, solid_of, tail, take_outer}
pub use Rattle.euler_operators.specs.Effect.{without_edge}
pub use Rattle.euler_operators.specs.declared.Op.{Op}
pub use Rattle.euler_operators.specs.declared.Op.TheVariants.{Kef, Kemr, Kev, Kfmrh, Kvfs, Mef, Mekr, Merge, Mev, Mfkrh, Mvfs, Outer, Part, RingIn, RingOut}
pub use Rattle.shapes.proofs.Common.{AgreeOn, area_kept, corners_are, face_listed, face_of_loop, faces_rise, listed_face, loop_in_solid, loops_agree, normal_agrees, on_one, rising_one, same_volumes, volume_of}
pub use Rattle.shapes.specs.Common.{anchor, area, corners_in, finish, first_vertex, loops_in, start, vertices_in, vertices_on, volume_in}
unfoldable pub use Rattle.shapes.specs.Common.{corners, loops_of, six_volume}
pub use Rattle.std.proofs.Common.{Bool, List, None, Option, Some, [], ap, arith, cond, eq-eqb, eqb-true, false, inl, inr, is_some, map, nat_cmp, nat_eq, nat_lt, ne_eqb, option_map, refl, subst, sym, true, true≢false, ℕ, ◌++◌, ◌||◌, ◌∙◌, ◌∷◌, ◌≡◌, ◌≢◌, ◌⊎◌}
pub use Rattle.std.proofs.lemmas.Bool.Decides.{eqb_tells}
pub use Rattle.std.specs.FinMap.{nat_cmp-IsAntisymmetric}
