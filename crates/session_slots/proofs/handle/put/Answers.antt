use Rattle.std.proofs.Common.{rules}
use Rattle.session_slots.proofs.handle.put.Goals as goal

pub returns : goal.returns
returns c = search rules
