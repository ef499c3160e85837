use Rattle.solid_measure.proofs.Prelude.{ap, ◌∙◌, arith, dot, fits, held_is, dot_turned, read}
use Rattle.solid_measure.proofs.Planes.{held_vector_is}
use Rattle.solid_measure.proofs.faces.frame_volume.Goals as goal

pub returns-clause-is : goal.returns-clause-is
returns-clause-is c =
    let n = read c.args.frame.normal in let anchor = c.args.frame.anchor in
    held_is c.dot.result (fits _ _ c.dot.ensures.within (omega arith))
    ∙ c.dot.ensures.is ∙ ap (λ v. dot v anchor) (held_vector_is n anchor c.dot.result c.requires.normal c.dot.ensures.within) ∙ dot_turned n anchor
