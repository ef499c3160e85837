use Rattle.std.proofs.Common.{rules}
use Rattle.session_slots.proofs.readers.face_after.Goals as goal

pub returns : goal.returns
returns c = search rules
