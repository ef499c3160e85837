-- What the proofs here take from elsewhere, passed on from one place. Declares nothing.
pub use Rattle.euler_laws.proofs.Common.{Around, Leads, all_hold, apart_xs, cycle_is, effects_keep_sound, half_is, listed-from_in, listed_passes, next_goes, next_taken, verdict_failed, verdict_passed}
pub use Rattle.euler_laws.specs.Laws.{AreAccepted, effects}
pub use Rattle.euler_operators.proofs.Common.{IsIn_head, IsIn_last, IsIn_rest, after_equal, canonical-rotates, code-half, content_row, count-append, count-reverse, equal_is, face_row, first_fails, first_where_zero, half-code, half_number, in-holds, last_or_push, length-canonical, loop_number, number_fits, or_false, or_true, predecessor_head, predecessor_same, reverse-cons, same_as, same_truth, successor_head, successor_same, tick_other, tick_same, zero_first_where}
pub use Rattle.euler_operators.specs.Common.{At, Condition, HalfEdge, Has, HasHalf, IsApart, IsIn, LoopContent, LoopRow, Model, Point, Sound, after, before, canonical, code, cycle, cycle_of, faces_of, first_false, first_refusal, get, greatest, half, head_or, is_lone, items_of, last_or, lists, lone, mate, minus, no_face, no_loop, outer, plus, point_of, predecessor, same_point, successor, tick, verdict}
unfoldable pub use Rattle.euler_operators.specs.Common.{content, face_of, solid_of}
pub use Rattle.euler_operators.specs.declared.Op.{Op}
pub use Rattle.euler_operators.specs.declared.Op.TheVariants.{Kef, Kev, Kfmrh, Mef, Mekr, Merge}
pub use Rattle.euler_operators.specs.declared.Why.TheVariants.{LoneLoop, NoMatch, NotFlat, RepeatedPoint}
pub use Rattle.gluing.specs.Rims.{item_at}
pub use Rattle.gluing.specs.glue_checks.Conditions.{early_refusal}
pub use Rattle.gluing.specs.glue_checks.Places.{place_from}
pub use Rattle.gluing_laws.proofs.glue.Glued.{glue_accepted, glue_is_glued}
pub use Rattle.shapes.proofs.Common.{Facing, first_refusal-append, first_refusal-front, first_refusal-refused, greatest_is, none_found, none_is_lone, same_is, same_lists}
pub use Rattle.shapes.specs.Common.{closing, closings, face_conditions, faces_are_flat, faces_of_both, finish, first_such, found, fresh_edge, glue_model, glue_refusal, glued_part, has_repeats, is_flat, is_rotation, is_turned, least_lone, no_such, numbers_left, opening, outline, outline_conditions, partner, rim, same_points, seam, start}
unfoldable pub use Rattle.shapes.specs.Common.{early_glue_conditions, glue_conditions, glue_ops, taken_in}
pub use Rattle.solid_walks.proofs.face_walks_laws.Yielded.{serves_listed}
pub use Rattle.solid_walks.proofs.lone_laws.Searches.{first_is, lesser_none}
pub use Rattle.std.proofs.Common.{BTreeSet, Bool, Err, IfSome, List, None, Ok, Option, Ordering, Result, Some, [], ap, append-nil, append_assoc, arith, cond, drop, eqb-true, false, get_or, get_or-drop, inl, inr, int_cmp, int_eq, is_eq, is_err, is_some, length, length-append, length-drop, length-take-le, map, nat_eq, not, of_calls, option_map, refl, reverse, rules, slice_index_or, subst, suc, sym, take, take_all, tests, true, true≢false, unwrap_or, zero, ℕ, ℤ, ◌&&◌, ◌++◌, ◌+◌, ◌-◌, ◌<◌, ◌||◌, ◌∙◌, ◌∷◌, ◌≡◌, ◌≢◌, ◌≤◌}
pub use Rattle.std.proofs.lemmas.Bool.{cases_eq, or_cases, or_left, or_parts, or_right}
pub use Rattle.std.proofs.lemmas.Bool.Decides.{eqb_tells, nat_tests}
pub use Rattle.std.proofs.lemmas.Iterator.Consumers.{YieldsList-at, YieldsList-from_first}
pub use Rattle.std.proofs.lemmas.List.{drop_all, length-map, length-reverse, reverse-append, take_rest}
pub use Rattle.std.proofs.lemmas.Result.{err_from_is_err_and, on_ok_weaker}
pub use Rattle.std.specs.List.{list_any}
pub use Rattle.undo_journal.proofs.Marks.{first_step, further_accepted, further_on, further_recorded, step_after, steps_after, steps_make, steps_recorded}
pub use Rattle.undo_journal.specs.Journal.{DraftJournal, IsFurther, after_step, after_steps}
pub use Rattle.undo_journal.specs.Machine.{accepted, held}
