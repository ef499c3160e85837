-- What a change leaves alone.
use Rattle.std.specs.Prelude.{ℕ}
use Rattle.commands.specs.Common.{Change}
use Rattle.commands.specs.Changes.{operators_of}
use Rattle.call_lists.specs.Common.{IsWhole, Stage, Tells, Told, shown}
use Rattle.call_types.specs.declared.command.Call.TheVariants as call
use Rattle.call_types.specs.declared.command.Command.TheVariants as command
use Rattle.untouched_solids.specs.Alone.{StandsAs}
use Rattle.untouched_solids.specs.Laws.{NoneTouches}

-- a change leaves each solid that none of its operators touches as it stood, whatever it is told
abbrev pub ChangesLeaveUntouched : Type 0
ChangesLeaveUntouched = (g h : Stage) (c : Change) (a : Told) (u : ℕ) → IsWhole g → Tells g (call.Give (command.Change c)) a h →
    NoneTouches (shown g) (operators_of (shown g) c) u →
    StandsAs (shown g) (shown h) u
