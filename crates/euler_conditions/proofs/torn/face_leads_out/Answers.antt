use Rattle.euler_conditions.proofs.Prelude.{sym, subst, ◌∙◌, StaysIn}
use Rattle.euler_conditions.proofs.Borders.{face_stays, outer_stays}
use Rattle.euler_conditions.proofs.torn.face_leads_out.Goals as goal

pub returns-then-has_rings-clause-within : goal.returns-then-has_rings-clause-within
returns-then-has_rings-clause-within c =
    let M = c.args.arena.now.model in let fs = c.args.listed_faces.now in
    λ r. face_stays M fs c.args.f (subst (StaysIn M fs) c.outer.ensures (c.loop_leads_out.ensures.within c.if-loop_leads_out.false)) (c.rings_lead_out.ensures.within r)

pub returns-else-has_rings-clause-within : goal.returns-else-has_rings-clause-within
returns-else-has_rings-clause-within c =
    let M = c.args.arena.now.model in let fs = c.args.listed_faces.now in
    λ r. outer_stays M fs c.args.f (subst (StaysIn M fs) c.outer.ensures (c.loop_leads_out.ensures.within c.if-loop_leads_out.false)) (sym c.has_rings.ensures ∙ c.if-has_rings.false)
