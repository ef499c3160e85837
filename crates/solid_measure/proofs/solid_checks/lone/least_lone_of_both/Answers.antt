use Rattle.solid_measure.proofs.Prelude.{◌∙◌, lesser, both_lone}
use Rattle.solid_measure.proofs.solid_checks.lone.least_lone_of_both.Goals as goal

pub returns : goal.returns
returns c = c.lesser.ensures ∙ (λ i. lesser (c.least_lone.ensures i) (c.least_lone-2.ensures i)) ∙ both_lone c.args.arena.now.model c.requires.sound c.args.s c.args.other
