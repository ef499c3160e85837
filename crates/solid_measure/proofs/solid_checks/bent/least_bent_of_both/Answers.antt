use Rattle.solid_measure.proofs.Prelude.{◌∙◌, lesser}
use Rattle.solid_measure.proofs.solid_checks_laws.BentFaces.{both_bent}
use Rattle.solid_measure.proofs.solid_checks.bent.least_bent_of_both.Goals as goal

pub returns : goal.returns
returns c = c.lesser.ensures ∙ (λ i. lesser (c.least_bent.ensures i) (c.least_bent-2.ensures i)) ∙ both_bent c.args.arena.now.model c.requires.sound c.args.s c.args.other
