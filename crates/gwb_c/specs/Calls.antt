-- What an export does to the session or draft behind a handle, and which numbers in use it keeps for `gwb_lent_fresh`.
use Rattle.std.specs.Prelude.{◌≡◌, ℕ, List, Option, Some, None}
use Rattle.session_slots.specs.Common.{Asked, Op, Change, Question, Command, Call, Told, Counts_in, Notes, calls, gives, part_asked, spoken}
use Rattle.handles.specs.Uses.{HandleGoes, asks, lack_asked}
use Rattle.session_slots.specs.Opening.{stage_in}
use Rattle.session_slots.specs.declared.slot.Slot.{Slot}
use Rattle.gwb_c.specs.Handle.{Recalls}

-- this holds of what an open handle holds before and after
abbrev pub Within : (Slot → Slot → Type 0) → Option Slot → Option Slot → Type 0
Within R None new = Unit {0}
Within R (Some x) new = (y : Slot) × (new ≡ Some y) × R x y

-- the numbers in use before it are kept, if the session or draft has the call
abbrev pub Goes : Option Slot → Asked → Option Slot → ℕ → Type 0
Goes old q new kind = HandleGoes old (asks q) new kind × Within (λ x y. Notes x y kind) old new

-- the call is made
abbrev pub Does : Option Slot → Call → Option Slot → ℕ → Type 0
Does old c new kind = Goes old (calls c) new kind

-- the line is answered
abbrev pub Hears : Option Slot → List ℕ → Option Slot → ℕ → Type 0
Hears old line new kind = Goes old (spoken line) new kind

-- a call that is a change of the model: in a session a command, in a draft steps
abbrev pub Changes : Option Slot → Change → Option Slot → ℕ → Type 0
Changes old c new kind = Does old (Call.Give (Command.Change c)) new kind

-- an operator is such a change
abbrev pub Acts : Option Slot → Op → Option Slot → ℕ → Type 0
Acts old op new kind = Changes old (Change.Act op) new kind

-- a call that is a query: the numbers from before the last command stay
abbrev pub Asks : Option Slot → Question → Option Slot → ℕ → Type 0
Asks old q new kind = HandleGoes old (asks (gives (Command.Ask q))) new kind × Within (λ x y. y.before ≡ x.before) old new

-- a call that makes a new solid of some faces of a solid
abbrev pub Parts : Option Slot → List ℕ → ℕ → Option Slot → ℕ → Type 0
Parts old fs t new kind = HandleGoes old (asks (part_asked (stage_in old) fs t)) new kind × Within (λ x y. Counts_in x y.before) old new

-- no call is made, and the answer is that memory was refused
abbrev pub Lacks : Option Slot → Option Slot → ℕ → Type 0
Lacks old new kind = HandleGoes old (asks lack_asked) new kind × Within (λ x y. Counts_in x y.before) old new

-- what the reader of the last answer writes is written
abbrev pub Tells : {X : Type 0} → (Told → X → X → ℕ → Type 0) → Option Slot → X → X → Type 0
Tells G slot old new = (told : ℕ) × Recalls G slot old new told
