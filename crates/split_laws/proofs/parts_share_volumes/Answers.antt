use Rattle.split_laws.proofs.measures.Parts.{parts_there, volumes_shared, others_kept}
use Rattle.split_laws.proofs.parts_share_volumes.Goals as goal

pub returns : goal.returns
returns c = record { solids = parts_there; two = volumes_shared; others = others_kept }
