-- What the proofs here take from elsewhere, passed on from one place. Declares nothing.
pub use Rattle.euler_laws.proofs.Common.{verdict_passed}
pub use Rattle.euler_operators.proofs.Common.{IsIn-get_or, content_row, half-code, half-minus, half-plus, in-holds, outer_row}
pub use Rattle.euler_operators.specs.Common.{At, Content, Corner, FaceRow, HalfEdge, Has, HasHalf, IsIn, IsInRange, Lone, LoopContent, LoopRow, Model, Point, Sound, StandsIn, code, content, cycle, cycle_of, dot, effect, face_of, first_false, half, has, has_half, is_lone, items_of, lone, moved, no_point, outer, plus, point_of, rings_of, same_point, solid_of, tail}
pub use Rattle.euler_operators.specs.declared.Op.{Op}
pub use Rattle.euler_operators.specs.declared.Op.TheVariants.{Mef, Mev, Mvfs}
pub use Rattle.shapes.specs.Common.{AreLeft, Taken, base_of, block_model, block_refusal, first_far, first_repeated, first_such, is_flat, lamina_at, lamina_face, lamina_refusal, normal, numbers_after, prism_model, prism_refusal, riser, six_volume, start, vector, vertices_in, vertices_on}
unfoldable pub use Rattle.shapes.specs.Common.{corners, lamina_conditions, lamina_model, loops_of, prism_conditions, taken_in}
pub use Rattle.solid_walks.proofs.face_walks_laws.Yielded.{serves_folding}
pub use Rattle.solid_walks.specs.Counters.{taken_of}
pub use Rattle.solid_walks.specs.declared.numbers.Counters.{Counters}
pub use Rattle.std.proofs.Common.{Bool, Err, List, None, Ok, OnOk, Some, [], add-one, ap, append-nil, append_assoc, arith, drop, fold, get_or, length, length-append, map, min, of_calls, pos, refl, rules, slice_index_or, subst, suc, sym, take, tests, true, w64, ℕ, ℤ, ◌++◌, ◌+◌, ◌-ℤ◌, ◌-◌, ◌<◌, ◌↔◌, ◌∙◌, ◌∷◌, ◌≡◌, ◌≤◌}
pub use Rattle.std.proofs.lemmas.Grind.{common_steps}
pub use Rattle.std.proofs.lemmas.Int.{to_z-of_z}
pub use Rattle.std.proofs.lemmas.Iterator.Consumers.{YieldsList-from_first, fold_from_yields_List}
pub use Rattle.std.proofs.lemmas.List.{get_or-map, length-map, take_rest}
pub use Rattle.std.proofs.lemmas.Result.{on_ok_weaker}
pub use Rattle.sweeps.specs.Corners.{is_far}
unfoldable pub use Rattle.sweeps.specs.Corners.{joined, tally}
pub use Rattle.sweeps.specs.Raising.{CanRise, with_lamina}
pub use Rattle.sweeps_laws.proofs.Block.{block_keeps_others, block_volume, flat_laminas_measure_nothing, lamina_keeps_others, lamina_measures}
pub use Rattle.sweeps_laws.proofs.BlockOps.{blocks_are_accepted, operators_make_blocks}
pub use Rattle.sweeps_laws.proofs.lamina.Steps.{Goes, first_made, greatest-with_path, greatest-with_points}
pub use Rattle.sweeps_laws.proofs.lamina.Walk.{lamina_goes, lamina_is_sound, next_accepted, next_made, operators_are_accepted, operators_make_lamina, path_sound}
pub use Rattle.sweeps_laws.proofs.prism.Accepted.{begins, face_there, sweep_accepted, sweep_is_prism}
pub use Rattle.sweeps_laws.proofs.prism.Sides.{content_is, half_there, two_items}
pub use Rattle.sweeps_laws.proofs.prism.Whole.{Going, same_items, turn_next, turn_ops, turn_ready}
unfoldable pub use Rattle.sweeps_laws.specs.block.BlockOps.{block_operators}
pub use Rattle.sweeps_laws.specs.lamina.Path.{end_corner, first_half, first_point, further_points, last_edge, next_point, path_at, second_half}
unfoldable pub use Rattle.sweeps_laws.specs.lamina.Path.{lamina_operators}
pub use Rattle.sweeps_laws.specs.prism.Ready.{Ready, needed_for_sides}
pub use Rattle.sweeps_laws.specs.prism.SweepOps.{close, close_last, loop_ops, ops_from, raise, raise_item, rounds, taken_after}
unfoldable pub use Rattle.sweeps_laws.specs.prism.SweepOps.{sweep_ops}
pub use Rattle.undo_journal.proofs.Marks.{back_at_mark, further_accepted, further_back, further_none, further_on, further_recorded, further_session, no_steps, step_after, steps_after, steps_make, steps_recorded}
pub use Rattle.undo_journal.specs.Journal.{DraftJournal, IsFurther, after_step, after_steps, record_of, recorded}
pub use Rattle.undo_journal.specs.Machine.{accepted, held}
