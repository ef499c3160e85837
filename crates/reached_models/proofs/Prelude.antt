-- What the proofs here take from elsewhere, passed on from one place. Declares nothing.
pub use Rattle.euler_laws.proofs.Common.{Grown, KefGoes, KemrGoes, KevGoes, KvfsGoes, Leads, OtherSolids, PartGoes, all_where-rises, all_where_has, all_where_in, counted_once, effect_keeps_sound, effects_keep_sound, face_in, faces_one, first_listed, half_after, halves_of_edge, in_faces, inverse_goes, inverse_undoes, inverses_go, inverses_undo, kef_accepted, kemr_grows, kev_accepted, leads_first, leads_none, leads_on, leads_one, leads_sound, listed-from_in, listed_passes, loop_after, loops_are, mef_grows, mev_grows, mfkrh_accepted, mfkrh_grows, part_accepted, rises_apart, rises_on, size-map_rows, size-remove}
pub use Rattle.euler_laws.specs.Laws.{AreAccepted, all_rings, effects, inverses, size}
pub use Rattle.euler_operators.proofs.Common.{IsApart-images, IsIn_some_head, code-half, content_cycle, content_row, edge_of-mate, face_row, from_map, in-holds, length_below, lone_there, loop_there, mate-mate, mate_plus, mate_there, none_all_where, number_fits, one_or_more, plus_there, row_some, same_content, solid_row, tick_other, tick_same}
pub use Rattle.euler_operators.specs.Common.{EdgeRow, FaceRow, Has, HasHalf, IsApart, IsIn, LoopContent, LoopRow, Model, NumbersFit, Reaches, Sound, StandsIn, Table, after, all_where, content, cycle, edge_of, face_at, face_of, faces_of, first_false, further, get, get-empty, half, head_or, head_or_zero, here, holds, is_lone, is_number, items_of, lists, lone, lone_vertex, loop_of, mate, outer, plus, round, same_table, solid_of, strictly_rises}
unfoldable pub use Rattle.euler_operators.specs.Common.{effect, empty_model, inverse, kvfs_at, part}
pub use Rattle.euler_operators.specs.declared.Op.{Op}
pub use Rattle.euler_operators.specs.declared.Op.TheVariants.{Kef, Kemr, Kev, Kvfs, Mfkrh, Part}
pub use Rattle.reached_models.specs.Laws.{IsBuilder, OperatorsLead}
pub use Rattle.std.proofs.Common.{All, Bool, List, None, Option, Some, [], ap, arith, cond, eqb-true, false, inl, inr, is_some, length, map, nat_eq, ne_eqb, not, refl, subst, suc, sym, true, true≢false, zero, ℕ, ◌&&◌, ◌*◌, ◌++◌, ◌+◌, ◌<◌, ◌||◌, ◌↔◌, ◌∙◌, ◌∷◌, ◌≡◌, ◌≢◌, ◌≤◌, ◌⊎◌}
pub use Rattle.std.proofs.lemmas.Bool.{and_parts, eqb-false, not-false, not-true}
pub use Rattle.std.proofs.lemmas.Bool.Decides.{eqb_tells, nat_tests}
pub use Rattle.std.proofs.lemmas.List.Elements.{All-append, All-cons, All-head, All-nil, All-push, All-tail}
