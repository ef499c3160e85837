-- What the exports of the library for C do to what a handle holds: each is a case of `HandleGoes`.
use Rattle.std.specs.Prelude.{◌≡◌, ℕ, Bool, cond, Option, Some, None}
use Rattle.session_slots.specs.Common.{Told, Asked, Heeds, Opened, Stage, keeps}
use Rattle.session_slots.specs.declared.slot.Slot.{Slot}

-- it is answered that memory was refused
abbrev pub lack_asked : Asked
lack_asked = keeps Told.Memory

-- an open handle has a session or draft, which heeds what is asked; a closed one stays closed, and C is told so
abbrev pub HandleHeeds : Option Slot → Asked → Option Slot → ℕ → Type 0
HandleHeeds None q new kind = (new ≡ None) × (kind ≡ 9)
HandleHeeds (Some x) q new kind = (g : Stage) × (h : Stage) × (y : Slot) × (x.console.stage ≡ Some g) × (new ≡ Some y) × (y.console.stage ≡ Some h)
    × Heeds g x.console.answer q h y.console.answer kind

-- arguments that spell no call change nothing
abbrev pub Leaves : Option Slot → Option Slot → ℕ → Type 0
Leaves None new kind = (new ≡ None) × (kind ≡ 9)
Leaves (Some x) new kind = (new ≡ Some x) × (kind ≡ 10)

-- what an export is for
pub data Use : Type 0 where
  opens : Use
  closes : Use
  asks : Asked → Use
  skips : Use
  reads : Use

-- so it leaves the handle, and C is told this number
abbrev pub HandleGoes : Option Slot → Use → Option Slot → ℕ → Type 0
HandleGoes old opens new kind = (opened : Bool) × (kind ≡ cond opened 1 0) × Opened old new opened
HandleGoes old closes new kind = new ≡ None
HandleGoes old (asks q) new kind = HandleHeeds old q new kind
HandleGoes old skips new kind = Leaves old new kind
HandleGoes old reads new kind = new ≡ old
