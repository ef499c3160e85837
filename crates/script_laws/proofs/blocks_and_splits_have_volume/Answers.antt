use Rattle.script_laws.proofs.Built.{have_volume}
use Rattle.script_laws.proofs.Positive.{written_volumes_are_positive}
use Rattle.script_laws.proofs.Worked.{others_may_have_none}
use Rattle.script_laws.proofs.blocks_and_splits_have_volume.Goals as goal

pub returns : goal.returns
returns c =
    let volumes = c.built_are_convex.ensures.volumes in
    record { asked = have_volume volumes; otherwise = others_may_have_none; written = written_volumes_are_positive volumes }
