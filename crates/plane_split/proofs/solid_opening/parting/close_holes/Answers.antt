use Rattle.plane_split.proofs.Prelude.{arith, ap, ◌∙◌, after_steps, others_lead, caps_of, further_on}
use Rattle.plane_split.proofs.solid_opening_laws.Closed.{hole_and_others}
use Rattle.std.proofs.lemmas.Grind.{common_steps}
use Rattle.plane_split.proofs.solid_opening.parting.close_holes.Goals as goal

pub caps-preserved-in_ok-close_hole : goal.caps-preserved-in_ok-close_hole
caps-preserved-in_ok-close_hole c = record {
  accepted = grind (arith, common_steps);
  steps = others_lead c.caps.draft c.close_hole.new.draft _ _ c.in_ok-close_hole.ensures.steps
      ∙ ap (after_steps c.caps.draft) (hole_and_others (caps_of c.args.outer) c.caps.rest.now _ c.in-len1-up.len_at_least c.if-first.true)
      ∙ c.caps.invariant.steps;
  further = further_on _ _ _ c.caps.invariant.further c.in_ok-close_hole.ensures.further;
}
