use Rattle.plane_split.proofs.Prelude.{◌≡◌, ◌∙◌, map, length, sym, ap, arith, code, after_steps, taken_of, strip_ops, further_none, further_on, no_steps, step_after, steps_make}
use Rattle.plane_split.proofs.solid_opening_laws.Cycles.{inside_codes, edges_left, faces_left, loops_left}
use Rattle.plane_split.proofs.solid_opening_laws.CutOff.{mate_there, strip_goes, one_more}
use Rattle.plane_split.proofs.solid_opening.strips.cut_strips.Goals as goal

pub strips-init : goal.strips-init
strips-init c = record { inside = omega arith; steps = sym (no_steps _); further = further_none _ }

pub cut_strip-requires-clause-there : goal.cut_strip-requires-clause-there
cut_strip-requires-clause-there c = mate_there c.args.draft.now.model c.args.s (taken_of c.args.from.now) (map code c.args.halves.now) c.requires c.strips.i (inside_codes c.args.halves.now c.strips.i c.strips-test.true) c.strips.draft.model (steps_make _ _ _ c.strips.invariant.steps)

pub cut_strip-requires-clause-faces_left : goal.cut_strip-requires-clause-faces_left
cut_strip-requires-clause-faces_left c = omega (arith, faces_left c.args.draft.now.model c.args.s (taken_of c.args.from.now) c.args.halves.now c.requires, c.strips-test.true)

pub cut_strip-requires-clause-loops_left : goal.cut_strip-requires-clause-loops_left
cut_strip-requires-clause-loops_left c = omega (arith, loops_left c.args.draft.now.model c.args.s (taken_of c.args.from.now) c.args.halves.now c.requires, c.strips-test.true)

pub cut_strip-requires-clause-edges_left : goal.cut_strip-requires-clause-edges_left
cut_strip-requires-clause-edges_left c = omega (arith, edges_left c.args.draft.now.model c.args.s (taken_of c.args.from.now) c.args.halves.now c.requires, c.strips-test.true)

pub cut_strip-requires-clause-accepted : goal.cut_strip-requires-clause-accepted
cut_strip-requires-clause-accepted c = strip_goes c.args.draft.now.model c.args.s (taken_of c.args.from.now) (map code c.args.halves.now) c.requires c.strips.i (inside_codes c.args.halves.now c.strips.i c.strips-test.true) c.strips.draft.model (steps_make _ _ _ c.strips.invariant.steps)

pub strips-preserved : goal.strips-preserved
strips-preserved c = record {
  inside = omega (arith, c.strips-test.true);
  steps = step_after _ _ _ _ _ c.strips.invariant.steps c.in_ok-cut_strip.ensures.ok
      ∙ ap (after_steps c.args.draft.now) (one_more c.args.draft.now.model c.args.s (taken_of c.args.from.now) (map code c.args.halves.now) c.requires c.strips.i (inside_codes c.args.halves.now c.strips.i c.strips-test.true) c.strips.draft.model (steps_make _ _ _ c.strips.invariant.steps));
  further = further_on _ _ _ c.strips.invariant.further c.in_ok-cut_strip.ensures.further;
}

pub returns-clause-steps : goal.returns-clause-steps
returns-clause-steps c =
    let all : c.strips.i ≡ length c.args.halves.now = omega (arith, c.strips.invariant.inside, c.strips-test.false) in
    c.strips.invariant.steps ∙ ap (λ n. after_steps c.args.draft.now (strip_ops c.args.draft.now.model c.args.s (taken_of c.args.from.now) (map code c.args.halves.now) n)) all
