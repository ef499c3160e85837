use Rattle.plane_split.proofs.Prelude.{ap, ◌∙◌, arith, on_ok_weaker, after_steps, steps_after, steps_make, taken_of}
use Rattle.plane_split.proofs.solid_opening_laws.Cycles.{some_half, faces_left, loops_left, edges_left, stripped, caps_go, all_ops}
use Rattle.plane_split.proofs.solid_opening.cycle.open_cycle.Goals as goal

pub raise_copies-requires : goal.raise_copies-requires
raise_copies-requires c = stripped c.args.draft.now.model c.args.s (taken_of c.args.from.now) c.args.halves.now c.requires c.cut_strips.new.draft.model (steps_make _ _ _ c.in_ok-cut_strips.ensures.steps)

pub make_caps-requires-clause-some : goal.make_caps-requires-clause-some
make_caps-requires-clause-some c = omega (arith, some_half c.args.draft.now.model c.args.s (taken_of c.args.from.now) c.args.halves.now c.requires)

pub make_caps-requires-clause-faces_left : goal.make_caps-requires-clause-faces_left
make_caps-requires-clause-faces_left c = faces_left c.args.draft.now.model c.args.s (taken_of c.args.from.now) c.args.halves.now c.requires

pub make_caps-requires-clause-loops_left : goal.make_caps-requires-clause-loops_left
make_caps-requires-clause-loops_left c = loops_left c.args.draft.now.model c.args.s (taken_of c.args.from.now) c.args.halves.now c.requires

pub make_caps-requires-clause-edges_left : goal.make_caps-requires-clause-edges_left
make_caps-requires-clause-edges_left c = edges_left c.args.draft.now.model c.args.s (taken_of c.args.from.now) c.args.halves.now c.requires

pub make_caps-requires-clause-accepted : goal.make_caps-requires-clause-accepted
make_caps-requires-clause-accepted c = caps_go c.args.draft.now.model c.args.s (taken_of c.args.from.now) c.args.halves.now c.requires c.cut_strips.new.draft.model (steps_make _ _ _ c.in_ok-cut_strips.ensures.steps)
    c.raise_copies.new.draft.model (steps_make _ _ _ c.in_ok-raise_copies.ensures.steps)

pub returns-clause-steps : goal.returns-clause-steps
returns-clause-steps c =
    on_ok_weaker c.make_caps.result (λ steps.
    steps_after _ _ _ _ _ (steps_after _ _ _ _ _ c.in_ok-cut_strips.ensures.steps c.in_ok-raise_copies.ensures.steps) steps
    ∙ ap (after_steps c.args.draft.now) (all_ops c.args.draft.now.model c.args.s (taken_of c.args.from.now) c.args.halves.now c.requires c.cut_strips.new.draft.model (steps_make _ _ _ c.in_ok-cut_strips.ensures.steps))) c.make_caps.ensures.steps
