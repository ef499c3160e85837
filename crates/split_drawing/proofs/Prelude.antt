-- What the proofs here take from elsewhere, passed on from one place. Declares nothing.
pub use Rattle.euler_laws.specs.Laws.{AreAccepted, effects}
pub use Rattle.euler_operators.proofs.Common.{and_false, code-half, edge_of-code, half-code, loop_there, mate_plus, minus_row, minus_there, plus_there, tick_same}
pub use Rattle.euler_operators.specs.Common.{At, HalfEdge, Has, HasHalf, IsCutPlane, IsIn, Model, On, Plane, Point, Sound, Table, after, are_opposite, code, content, count, cut_between, edge_of, effect, face_at, faces_of, first_false, half, is_empty, is_ring_of, loop_of, minus, no_point, plus, rings_of}
unfoldable pub use Rattle.euler_operators.specs.Common.{has_rings}
pub use Rattle.euler_operators.specs.declared.Op.{Op}
pub use Rattle.euler_operators.specs.declared.Op.TheVariants.{Mef, Mekr, Mev, RingIn}
pub use Rattle.shapes.specs.Common.{Drawing, FacePairs, Growing, Taken, all_drawn, all_joined, crossing_edges, cut_edge, draw_next, draw_pair, drawn_between, faces_drawn, finish, goes_up, growing, in_one_loop, in_pairs, is_place, join_edge, join_next, join_pair, loops_of, ring_free, rings_above, rings_shared, some_above, sorted, start, straddles, straddling_faces, straddling_pairs, taken_in, undrawn, up_first, vertices_on, with_crossings, with_rings}
unfoldable pub use Rattle.shapes.specs.Common.{boundary, drawn_pairs, next_cut, next_drawn, place_pairs, places, sorted_pairs, with_drawings}
pub use Rattle.solid_walks.proofs.face_walks_laws.Above.{above}
pub use Rattle.solid_walks.specs.Counters.{taken_of}
pub use Rattle.solid_walks.specs.declared.numbers.Counters.{Counters}
pub use Rattle.split_checks.proofs.cut_places_laws.Lists.{of_picked, others, parts}
pub use Rattle.split_checks.proofs.cut_places_laws.NotedSides.{noted_still, told_up}
pub use Rattle.split_checks.specs.Cuts.{AreCuts, all_pairs, codes, how_many_pairs, paired, paired_face}
pub use Rattle.split_checks.specs.Progress.{drawing_of}
pub use Rattle.split_checks.specs.cut_places.Noted.{AreNoted, AreSides}
pub use Rattle.split_checks.specs.cut_places.Walks.{AreIn}
pub use Rattle.split_checks.specs.declared.cut_places.noted.Noted.{Noted}
pub use Rattle.split_checks.specs.declared.cuts.CutEdge.{CutEdge}
pub use Rattle.split_checks.specs.declared.cuts.Pair.{Pair}
pub use Rattle.split_checks.specs.declared.cuts.PairedFace.{PairedFace}
pub use Rattle.split_checks.specs.declared.progress.Progress.{Progress}
pub use Rattle.split_drawing.specs.edge_cutting.Begins.{CanBeCut, cut_op}
pub use Rattle.split_drawing.specs.face_drawing.Passes.{CanDraw, CanJoin}
pub use Rattle.split_drawing.specs.face_drawing.Stuck.{stuck_at}
pub use Rattle.split_drawing.specs.solid_drawing.Drawn.{CanDrawFace, CanDrawFaces, put_aside}
pub use Rattle.split_drawing.specs.solid_drawing.Starts.{PairsThere, pair_started, pairs_started}
pub use Rattle.split_drawing_laws.proofs.crossings.Whole.{crossings_counted, crossings_keep, crossings_made}
pub use Rattle.split_drawing_laws.proofs.drawings.Drawn.{draw_accepted, ring_rows}
pub use Rattle.split_drawing_laws.proofs.drawings.Faces.{begun_joining, face_goes, fitting_on, going, going_on, joins, last, newer_face}
pub use Rattle.split_drawing_laws.proofs.drawings.Passes.{can_now, draw_next_one, draw_next_two, draw_one, edge_fits_now, edge_free, join_next_one, join_next_two, join_one}
pub use Rattle.split_drawing_laws.proofs.drawings.Whole.{drawable, drawable_on, next_is, ready}
unfoldable pub use Rattle.split_drawing_laws.specs.crossings.CrossingOps.{crossing_ops}
pub use Rattle.split_drawing_laws.specs.crossings.Kept.{Kept}
pub use Rattle.split_drawing_laws.specs.drawings.DrawingOps.{draw_ops, face_ops, join_ops, ops_from, ring_ops, share_ops}
unfoldable pub use Rattle.split_drawing_laws.specs.drawings.DrawingOps.{drawing_ops}
pub use Rattle.split_drawing_laws.specs.drawings.Passing.{Drawable, Going, Joining, Ready}
pub use Rattle.std.proofs.Common.{Bool, IfOk, List, None, OnOk, Some, [], ap, append-nil, append_assoc, arith, cond, drop, drop_at, eq-eqb, false, filter, fold, is_some, length, length-append, length-drop, map, nat_eq, nat_lt, ne_eqb, not, refl, slice_index_or, subst, sym, take, take_at, true, ℕ, ◌&&◌, ◌++◌, ◌+◌, ◌<◌, ◌∙◌, ◌∷◌, ◌≡◌, ◌≢◌, ◌≤◌}
pub use Rattle.std.proofs.lemmas.List.{drop-map, length-map, map-append, take-map}
pub use Rattle.undo_journal.proofs.Marks.{after_both, further_none, further_on, no_steps, steps_after, steps_make}
pub use Rattle.undo_journal.specs.Journal.{DraftJournal, IsFurther, after_step, after_steps}
