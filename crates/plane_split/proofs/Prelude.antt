-- What the proofs here take from elsewhere, passed on from one place. Declares nothing.
pub use Rattle.euler_laws.proofs.Common.{AreAccepted-back, AreAccepted-front, Leads, effects-append, next_goes, next_taken, some_taken, verdict_failed, verdict_passed}
pub use Rattle.euler_laws.specs.Laws.{AreAccepted, effects}
pub use Rattle.euler_operators.proofs.Common.{IsIn_or_not, edge_of-code, half-code}
pub use Rattle.euler_operators.specs.Common.{At, HalfEdge, Has, HasHalf, Model, Plane, Point, Sound, after, code, count, edge_of, effect, first_false, first_refusal, half, lists, mate, minus, no_point, plus, tail, verdict}
unfoldable pub use Rattle.euler_operators.specs.Common.{point_of}
pub use Rattle.euler_operators.specs.declared.Op.{Op}
pub use Rattle.euler_operators.specs.declared.Op.TheVariants.{Kef, Kemr, Kfmrh, Mef, Mev, Mfkrh, Part}
pub use Rattle.euler_operators.specs.declared.Refusal.{Refusal}
pub use Rattle.euler_operators.specs.declared.Why.TheVariants.{CutCrossed}
pub use Rattle.plane_split.specs.declared.solid_opening.caps.Caps.{Caps}
pub use Rattle.plane_split.specs.solid_opening.Capped.{all_caps, caps_of, opened_section, opening_of, unopened}
pub use Rattle.plane_split.specs.solid_opening.Closing.{holes_ops, outer_uppers}
pub use Rattle.plane_split.specs.solid_opening.Stages.{AreStripped, CanOpen}
pub use Rattle.shapes.specs.Common.{Drawing, Opening, Taken, all_opened, below_halves, faces_above, first_conditions, is_hole, later_conditions, no_such, numbers_after, opened_along, opened_at, outer_caps, renamed, section_cycles, six_volume, some_above, some_below, split_refusal, upper_left, vertices_of, with_drawings}
unfoldable pub use Rattle.shapes.specs.Common.{next_opened, section_conditions, split_conditions, split_model}
pub use Rattle.split_checks.proofs.begin_checks_laws.Stages.{none_early}
pub use Rattle.split_checks.specs.begin_checks.Conditions.{early_refusal}
pub use Rattle.split_drawing.proofs.CutPlaces.{others, parts}
pub use Rattle.split_drawing.proofs.StepsLeft.{none_left, others_lead}
pub use Rattle.split_drawing.specs.Counters.{taken_of}
pub use Rattle.split_drawing.specs.Progress.{drawing_of}
pub use Rattle.split_drawing.specs.solid_drawing.Drawn.{put_aside}
pub use Rattle.split_laws.proofs.Whole.{split_accepted, split_made, split_sound}
pub use Rattle.split_laws.specs.SplitOps.{closing_ops, hole_ops, openings_ops, ops_above, split_above, upper_ops}
unfoldable pub use Rattle.split_laws.specs.SplitOps.{split_ops}
pub use Rattle.split_opening_laws.proofs.opening.Whole.{opening_accepted, opening_made}
pub use Rattle.split_opening_laws.proofs.strips.Strip.{cut_half, cut_tail, strip_accepted}
pub use Rattle.split_opening_laws.specs.caps.CapOps.{joinings, partings}
unfoldable pub use Rattle.split_opening_laws.specs.caps.CapOps.{cap_ops}
unfoldable pub use Rattle.split_opening_laws.specs.opening.OpeningOps.{opening_ops}
pub use Rattle.split_opening_laws.specs.sections.InTurn.{CanBeOpenedInTurn}
pub use Rattle.split_opening_laws.specs.strips.StripOps.{copy_ops, cut_strip, place_before, raise_copy, strip_ops}
pub use Rattle.split_opening_laws.specs.strips.Strips.{copied, copies_raised, copy_riser}
unfoldable pub use Rattle.split_opening_laws.specs.strips.Strips.{strips_cut}
pub use Rattle.split_sections.specs.section_checks.Sections.{IsSection, cycles_of}
pub use Rattle.split_sections.specs.section_cycles.Halves.{halves_of}
pub use Rattle.std.proofs.Common.{Bool, Err, IfErr, List, None, Ok, OnOk, Option, Result, Some, [], ap, append_assoc, arith, cond, drop, false, filter, get_or, inl, inr, length, map, nat_eq, not, refl, slice_index_or, subst, suc, sym, true, unwrap_or, w64, zero, ℕ, ℤ, ◌&&◌, ◌*◌, ◌++◌, ◌+ℤ◌, ◌+◌, ◌-◌, ◌<◌, ◌∙◌, ◌∷◌, ◌≡◌, ◌≢◌, ◌≤◌}
pub use Rattle.std.proofs.lemmas.Bool.Decides.{nat_tests}
pub use Rattle.std.proofs.lemmas.List.{get_or-map, length-map, map-append}
pub use Rattle.std.proofs.lemmas.Result.{on_ok_weaker}
pub use Rattle.undo_journal.proofs.Marks.{further_none, further_on, further_recorded, further_session, no_steps, step_after, steps_after, steps_make, steps_recorded}
pub use Rattle.undo_journal.specs.Journal.{DraftJournal, IsFurther, Journal, after_step, after_steps}
pub use Rattle.undo_journal.specs.Machine.{Machine, accepted, held}
