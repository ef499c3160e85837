use Rattle.std.proofs.Common.{◌≡◌, ◌∙◌, ◌&&◌, Some, None, IfOk, IfErr, sym, ap, subst}
use Rattle.split_checks.proofs.begin_checks_laws.Stages.{met_decides, missed}
use Rattle.split_checks.proofs.begin_checks.checks.check_section.Goals as goal

pub returns-then-not-is_met-clause-refused : goal.returns-then-not-is_met-clause-refused
returns-then-not-is_met-clause-refused c =
    missed c.args.arena.now.model c.args.s c.args.plane ((λ i. sym c.in_ok-met.ensures.met.above i && sym c.in_ok-met.ensures.met.below i) ∙ sym c.is_met.ensures ∙ c.if-not-is_met.true) ∙ ap Some (sym c.refusal.ensures)

pub returns-clause-accepted : goal.returns-clause-accepted
returns-clause-accepted c =
    let met = met_decides c.args.arena.now.model c.args.s c.args.plane ((λ i. sym c.in_ok-met.ensures.met.above i && sym c.in_ok-met.ensures.met.below i) ∙ sym c.is_met.ensures ∙ c.if-not-is_met.false) in
    subst (λ o. IfOk c.check_cuts.result (λ checked. IfOk checked (λ _. o ≡ None))) met c.check_cuts.ensures.accepted

pub returns-clause-refused : goal.returns-clause-refused
returns-clause-refused c =
    let met = met_decides c.args.arena.now.model c.args.s c.args.plane ((λ i. sym c.in_ok-met.ensures.met.above i && sym c.in_ok-met.ensures.met.below i) ∙ sym c.is_met.ensures ∙ c.if-not-is_met.false) in
    subst (λ o. IfOk c.check_cuts.result (λ checked. IfErr checked (λ refusal. o ≡ Some refusal))) met c.check_cuts.ensures.refused
