use Rattle.solid_measure.proofs.Prelude.{◌∙◌, arith, fits, held_is}
use Rattle.solid_measure.proofs.Volumes.{face_volume}
use Rattle.solid_measure.proofs.faces.volume_over.Goals as goal

pub returns-in-Some-clause-is : goal.returns-in-Some-clause-is
returns-in-Some-clause-is c =
    held_is c.frame_volume.result (fits _ _ c.frame_volume.ensures.within (omega arith)) ∙ c.frame_volume.ensures.is
    ∙ face_volume c.args.arena.now.model c.args.f c.in-Some.frame c.in-Some.ensures
