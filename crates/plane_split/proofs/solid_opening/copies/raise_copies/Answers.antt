use Rattle.plane_split.proofs.Prelude.{◌≡◌, ◌∙◌, map, length, sym, ap, arith, code, after_steps, taken_of, copy_ops, further_none, further_on, no_steps, step_after, steps_make}
use Rattle.plane_split.proofs.solid_opening_laws.Cycles.{inside_codes, edges_left, vertices_left}
use Rattle.plane_split.proofs.solid_opening_laws.Raised.{half_there, copy_goes, one_raised}
use Rattle.plane_split.proofs.solid_opening.copies.raise_copies.Goals as goal

pub copies-init : goal.copies-init
copies-init c = record { inside = omega arith; steps = sym (no_steps _); further = further_none _ }

pub raise_copy-requires-clause-there : goal.raise_copy-requires-clause-there
raise_copy-requires-clause-there c = half_there c.args.draft.now.model c.args.s (taken_of c.args.from.now) (map code c.args.halves.now) c.requires c.copies.i (inside_codes c.args.halves.now c.copies.i c.copies-test.true) c.copies.draft.model (steps_make _ _ _ c.copies.invariant.steps)

pub raise_copy-requires-clause-edges_left : goal.raise_copy-requires-clause-edges_left
raise_copy-requires-clause-edges_left c = edges_left c.requires.before c.args.s (taken_of c.args.from.now) c.args.halves.now (c.requires.above, c.requires.can)

pub raise_copy-requires-clause-vertices_left : goal.raise_copy-requires-clause-vertices_left
raise_copy-requires-clause-vertices_left c = vertices_left c.requires.before c.args.s (taken_of c.args.from.now) c.args.halves.now (c.requires.above, c.requires.can)

pub raise_copy-requires-clause-accepted : goal.raise_copy-requires-clause-accepted
raise_copy-requires-clause-accepted c = copy_goes c.args.draft.now.model c.args.s (taken_of c.args.from.now) (map code c.args.halves.now) c.requires c.copies.i (inside_codes c.args.halves.now c.copies.i c.copies-test.true) c.copies.draft.model (steps_make _ _ _ c.copies.invariant.steps)

pub copies-preserved : goal.copies-preserved
copies-preserved c = record {
  inside = omega (arith, c.copies-test.true);
  steps = step_after _ _ _ _ _ c.copies.invariant.steps c.in_ok-raise_copy.ensures.ok
      ∙ ap (after_steps c.args.draft.now) (one_raised c.args.draft.now.model c.args.s (taken_of c.args.from.now) (map code c.args.halves.now) c.requires c.copies.i (inside_codes c.args.halves.now c.copies.i c.copies-test.true) c.copies.draft.model (steps_make _ _ _ c.copies.invariant.steps));
  further = further_on _ _ _ c.copies.invariant.further c.in_ok-raise_copy.ensures.further;
}

pub returns-clause-steps : goal.returns-clause-steps
returns-clause-steps c =
    let all : c.copies.i ≡ length c.args.halves.now = omega (arith, c.copies.invariant.inside, c.copies-test.false) in
    c.copies.invariant.steps ∙ ap (λ n. after_steps c.args.draft.now (copy_ops c.args.draft.now.model (taken_of c.args.from.now) (map code c.args.halves.now) n)) all
