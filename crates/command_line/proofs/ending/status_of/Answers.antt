use Rattle.std.proofs.Common.{Bool, ap, if◌then◌else◌}
use Rattle.command_line.proofs.ending.status_of.Goals as goal

pub returns-in-Ok-2 : goal.returns-in-Ok-2
returns-in-Ok-2 c = rw c.in-Ok.is (ap (λ (b : Bool). if b then 0 else 1) c.if-is_clean.ensures)
