use Rattle.plane_split.proofs.Prelude.{◌∙◌, map, refl, ap, after_steps, openings_ops, others_lead, none_left, halves_of, opening_of, further_on, steps_make}
use Rattle.plane_split.proofs.solid_opening_laws.Turns.{cycle_opens, others_left}
use Rattle.plane_split.proofs.solid_opening.opening.open_section.Goals as goal

pub open_cycle-requires : goal.open_cycle-requires
open_cycle-requires c = cycle_opens c.args.section.now.above.items c.args.s c.args.plane.now c.cycles.draft.model c.cycles.taken c.cycles.caps.items c.cycles.rest.now c.cycle-item.result c.in-len1-up.len_at_least c.cycle-item.is
    c.cycles.invariant.opens c.as_slice-halves.result.now c.as_slice-halves.ensures.value

pub cycles-preserved : goal.cycles-preserved
cycles-preserved c =
    let left = others_left c.args.section.now.above.items c.args.s c.args.plane.now c.cycles.draft.model c.cycles.taken c.cycles.caps.items c.cycles.rest.now c.cycle-item.result c.in-len1-up.len_at_least c.cycle-item.is
    c.cycles.invariant.opens c.as_slice-halves.result.now c.as_slice-halves.ensures.value c.cycles.invariant.holes c.open_cycle.new.draft.model (steps_make _ _ _ c.in_ok-open_cycle.ensures.steps)
    c.counted_on-taken.result c.counted_on-taken.ensures c.caps_after.result c.caps_after.ensures c.push.new.self.items c.in_ok-push.ensures.items in
    record {
      opens = left.0;
      holes = left.1;
      made = left.2 ∙ c.cycles.invariant.made;
      steps = others_lead c.cycles.draft c.open_cycle.new.draft _ _ c.in_ok-open_cycle.ensures.steps ∙ ap (after_steps c.cycles.draft) left.3 ∙ c.cycles.invariant.steps;
      further = further_on _ _ _ c.cycles.invariant.further c.in_ok-open_cycle.ensures.further;
    }

pub returns-clause-steps : goal.returns-clause-steps
returns-clause-steps c = none_left c.cycles.rest.now (λ ks. openings_ops c.args.section.now.above.items c.args.s c.args.plane.now (opening_of c.cycles.draft.model c.cycles.taken c.cycles.caps.items) (map halves_of ks)) c.args.draft.now c.cycles.draft _
    c.in_default.len_below refl c.cycles.invariant.steps
