-- A command is one call of a history of the plain machine.
use Rattle.std.specs.Prelude.{◌≡◌}
use Rattle.undo_journal.specs.Histories.{Call, after_call}
use Rattle.commands.specs.Common.{Command, Journal, Machine, Sound, Told, held}
use Rattle.commands.specs.Telling.{TellsSession}

-- one call leads from s to t
pub record IsCall (s t : Machine) : Type 0 where
  pub call : Call
  pub leads : after_call s call ≡ t

-- a command to a session on a sound model is one call, whatever the answer is
abbrev pub CommandsAreCalls : Type 0
CommandsAreCalls = (s t : Journal) (c : Command) (a : Told) → Sound (held s.machine) → TellsSession s c a t → IsCall s.machine t.machine
