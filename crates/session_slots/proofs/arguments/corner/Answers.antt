use Rattle.std.proofs.Common.{rules}
use Rattle.session_slots.proofs.arguments.corner.Goals as goal

pub returns-else-code-lt2147483648 : goal.returns-else-code-lt2147483648
returns-else-code-lt2147483648 c = search rules
