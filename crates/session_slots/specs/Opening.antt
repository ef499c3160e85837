-- What a handle holds once a session was begun in it.
use Rattle.std.specs.Prelude.{◌≡◌, Bool, true, false, Option, Some, None}
use Rattle.session_slots.specs.Common.Below.{new_journal, Told, Stage, Slot}

-- what a handle holds: a session or a draft
abbrev pub stage_in : Option Slot → Option Stage
stage_in None = None
stage_in (Some x) = x.console.stage

-- the answer to the last command
abbrev pub answer_in : Option Slot → Option Told
answer_in None = None
answer_in (Some x) = Some x.console.answer

-- whether there is a session or a draft
abbrev pub is_staged : Option Stage → Bool
is_staged None = false
is_staged (Some g) = true

-- whether a handle is closed, or has a session or a draft
abbrev pub is_whole : Option Slot → Bool
is_whole None = true
is_whole (Some x) = is_staged x.console.stage

-- a closed handle gets a new session that has answered nothing; else nothing has changed
abbrev pub Opened : Option Slot → Option Slot → Bool → Type 0
Opened None new true = (stage_in new ≡ Some (Stage.Session new_journal)) × (answer_in new ≡ Some Told.Silent)
Opened None new false = new ≡ None
Opened (Some x) new opened = (opened ≡ false) × (new ≡ Some x)
