use Rattle.script_laws.proofs.Measured.{parts_share_volumes}
use Rattle.script_laws.proofs.parts_share_volumes.Goals as goal

pub returns : goal.returns
returns c = let lines = c.lines_are_calls.ensures in parts_share_volumes lines.lead lines.consistent c.splits_are_held.ensures.parts c.splits_are_held.ensures.volumes c.splits_are_held.ensures.others
