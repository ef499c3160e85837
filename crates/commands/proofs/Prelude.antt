-- What the proofs here take from elsewhere, passed on from one place. Declares nothing.
pub use Rattle.commands.specs.Changes.{made, refusal_of}
pub use Rattle.commands.specs.Common.{Call, Change, Command, Done, DraftJournal, Drafting, Failure, Journal, Machine, Memory, OpenDraft, Refusal, Refused, Session, Stage, Told, accepted, held}
pub use Rattle.commands.specs.Steps.{BlocksTakeSteps, GluesTakeSteps, LaminasTakeSteps, SplitsTakeSteps, SweepsTakeSteps, gives_ring}
pub use Rattle.commands.specs.Telling.{Settled, Tells, TellsDraft, TellsSession, told_of, told_of_move}
pub use Rattle.euler_operators.proofs.Common.{IsIn_head, IsIn_rest}
pub use Rattle.euler_operators.specs.Common.{IsIn, LoopContent, Model, Plane, Point, Sound, content, cycle, face_at, half, has_rings, is_lone, is_ring_of, items_of, lone, loop_of, minus, outer, plus, tail, verdict}
pub use Rattle.euler_operators.specs.declared.Op.{Op}
pub use Rattle.plane_split.specs.Machine.{plane_with}
pub use Rattle.shapes.specs.Common.{Caps, Drawing, FacePairs, Growing, Opening, Taken, all_drawn, all_joined, base_of, below_halves, closings, crossing_edges, draw_next, draw_pair, drawn_between, fresh_edge, growing, holes_in, in_one_loop, is_hole, join_edge, join_next, join_pair, lamina_model, loops_of, next_cut, next_opened, numbers_after, outer_caps, pair_count, partner, prism_refusal, rim, ring_free, rings_above, split_refusal, straddling_faces, straddling_pairs, stuck_at, taken_in, undrawn, upper_left, vector, vertices_in, vertices_on, with_crossings, with_rings}
unfoldable pub use Rattle.shapes.specs.Common.{corners, glue_ops, next_drawn, with_drawings}
pub use Rattle.std.proofs.Common.{Bool, Err, IfSome, List, None, Ok, OnErr, OnOk, Option, Result, Some, [], ap, arith, cond, false, filter, flat_map, fold, inl, inr, length, length-append, map, nat_eq, nat_lt, not, pos, refl, rules, subst, suc, sym, true, w64, zero, ℕ, ℤ, ◌&&◌, ◌*◌, ◌++◌, ◌+◌, ◌-◌, ◌<◌, ◌↔◌, ◌∙◌, ◌∷◌, ◌≡◌, ◌≢◌, ◌≤◌, ◌⊎◌}
pub use Rattle.std.proofs.lemmas.Int.{to_z-of_z}
pub use Rattle.std.proofs.lemmas.Result.{on_ok_weaker}
pub use Rattle.sweeps.proofs.BlockSteps.{at_coefficients, at_sizes, block_ops}
