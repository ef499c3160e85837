use Rattle.plane_split.proofs.Prelude.{◌∙◌, ◌+◌, ◌*◌, [], ◌∷◌, ap, sym, subst, arith, AreAccepted, DraftJournal, after_steps, taken_of, further_none, further_on, no_steps, others_lead, Kef}
use Rattle.plane_split.proofs.solid_opening_laws.Killed.{all_kills, no_kills, kill_goes, kills_go, kill_and_others}
use Rattle.plane_split.proofs.solid_opening.joinings.join_strips.Goals as goal

pub risers-init : goal.risers-init
risers-init c =
    let all = all_kills (taken_of c.args.from.now) c.args.count c.requires.some in
    record {
      inside = omega (arith, c.requires.some);
      accepted = subst (AreAccepted c.args.draft.now.model) (sym all) c.requires.accepted;
      steps = ap (after_steps c.args.draft.now) all;
      further = further_none _;
    }

pub step_accepted-requires : goal.step_accepted-requires
step_accepted-requires c = kill_goes c.risers.draft.model c.risers.riser (c.args.from.now.edges + 2 * c.args.count) c.risers-test.true c.risers.invariant.accepted c.minus.result c.minus.ensures

pub risers-preserved : goal.risers-preserved
risers-preserved c =
    let last = c.args.from.now.edges + 2 * c.args.count in
    record {
      inside = omega (arith, c.risers-test.true);
      accepted = kills_go c.risers.draft.model c.risers.riser last c.risers-test.true c.risers.invariant.accepted c.minus.result c.minus.ensures c.step_accepted.new.self.model
          (ap (λ (d : DraftJournal). d.model) c.in_ok-step_accepted.ensures.ok);
      steps = others_lead c.risers.draft c.step_accepted.new.self (Kef c.minus.result ∷ []) _ c.in_ok-step_accepted.ensures.ok
          ∙ ap (after_steps c.risers.draft) (kill_and_others c.risers.riser last c.risers-test.true c.minus.result c.minus.ensures)
          ∙ c.risers.invariant.steps;
      further = further_on _ _ _ c.risers.invariant.further c.in_ok-step_accepted.ensures.further;
    }

pub returns-clause-steps : goal.returns-clause-steps
returns-clause-steps c =
    let none = no_kills c.risers.riser (c.args.from.now.edges + 2 * c.args.count) c.risers-test.false in
    sym (no_steps c.risers.draft) ∙ ap (after_steps c.risers.draft) (sym none) ∙ c.risers.invariant.steps
