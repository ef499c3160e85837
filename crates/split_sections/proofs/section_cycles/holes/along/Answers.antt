use Rattle.split_sections.proofs.Prelude.{◌∙◌, ap, arith, dot, fits, held_is, read}
use Rattle.split_checks.proofs.Planes.{held_vector_is}
use Rattle.split_sections.proofs.section_cycles.holes.along.Goals as goal

pub returns-clause-is : goal.returns-clause-is
returns-clause-is c =
    held_is c.dot.result (fits _ _ c.dot.ensures.within (omega arith)) ∙ c.dot.ensures.is
    ∙ ap (λ v. dot v c.args.to) (held_vector_is (read c.args.vector) c.args.to c.dot.result c.requires.vector c.dot.ensures.within)
