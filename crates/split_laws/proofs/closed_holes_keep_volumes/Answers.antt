use Rattle.split_laws.proofs.volumes.Closed.{closing_keeps}
use Rattle.split_laws.proofs.closed_holes_keep_volumes.Goals as goal

pub returns : goal.returns
returns c = record { all = closing_keeps }
