-- What a handle of C holds after any list of exports.
use Rattle.std.specs.Prelude.{◌≡◌, ℕ, ◌+◌, Option, Some, None, List, [], ◌∷◌, replicate}
use Rattle.call_lists.specs.Common.{Call, Give, IsWhole, Journal, Session, Stage, Undo, depth, held, new_journal}
use Rattle.call_lists.specs.Laws.{Each, IsOnward}
use Rattle.call_lists.specs.Making.{MakesAll}
use Rattle.session_slots.specs.Common.{Told, Loan, answer_after, calls, keeps, slot_in, status_of}
use Rattle.handles.specs.Uses.{HandleGoes, Use, asks, closes, opens, reads, skips}
use Rattle.session_slots.specs.declared.slot.Slot.{Slot}

-- exports one after the other, each on the handle that those before it leave; of each C is told a number
abbrev pub HandleGoesOn : Option Slot → List Use → List ℕ → Option Slot → Type 0
HandleGoesOn old [] [] new = new ≡ old
HandleGoesOn old [] (n ∷ kinds) new = ⊥
HandleGoesOn old (u ∷ uses) [] new = ⊥
HandleGoesOn old (u ∷ uses) (n ∷ kinds) new = (between : Option Slot) × HandleGoes old u between n × HandleGoesOn between uses kinds new

-- a handle is closed, or holds a session or draft that is whole
abbrev pub IsWholeHandle : Option Slot → Type 0
IsWholeHandle None = Unit {0}
IsWholeHandle (Some x) = (g : Stage) × (x.console.stage ≡ Some g) × IsWhole g

-- from a whole handle on, what it holds is whole after any list of exports
abbrev pub HandlesStayWhole : Type 0
HandlesStayWhole = (old new : Option Slot) (uses : List Use) (kinds : List ℕ) → IsWholeHandle old → HandleGoesOn old uses kinds new → IsWholeHandle new

-- an export that doesn't close the handle
abbrev pub StaysOpen : Use → Type 0
StaysOpen closes = ⊥
StaysOpen u = Unit {0}

-- the calls that exports ask for
abbrev pub calls_in : List Use → List Call
calls_in [] = []
calls_in (asks (calls c) ∷ uses) = c ∷ calls_in uses
calls_in (u ∷ uses) = calls_in uses

-- b and k are the last answers before and after exports whose calls are told so, and C is told these kinds
abbrev pub AreAnswered : Told → List Use → List Told → List ℕ → Told → Type 0
AreAnswered b [] told kinds k = (kinds ≡ []) × (k ≡ b)
AreAnswered b (u ∷ uses) told [] k = ⊥
AreAnswered b (asks (calls c) ∷ uses) [] (n ∷ kinds) k = ⊥
AreAnswered b (asks (calls c) ∷ uses) (a ∷ told) (n ∷ kinds) k = (n ≡ status_of a) × AreAnswered (answer_after b a) uses told kinds k
AreAnswered b (asks (keeps a) ∷ uses) told (n ∷ kinds) k = (n ≡ status_of a) × AreAnswered a uses told kinds k
AreAnswered b (opens ∷ uses) told (n ∷ kinds) k = (n ≡ 0) × AreAnswered b uses told kinds k
AreAnswered b (skips ∷ uses) told (n ∷ kinds) k = (n ≡ 10) × AreAnswered b uses told kinds k
AreAnswered b (u ∷ uses) told (n ∷ kinds) k = AreAnswered b uses told kinds k

-- exports of an open handle are the list of the calls that they ask for: of these all laws of lists hold
abbrev pub HandlesMakeCalls : Type 0
HandlesMakeCalls = (x : Slot) (g : Stage) (uses : List Use) (kinds : List ℕ) (new : Option Slot) → x.console.stage ≡ Some g → Each StaysOpen uses → HandleGoesOn (Some x) uses kinds new
    → (y : Slot) × (h : Stage) × (told : List Told) × (new ≡ Some y) × (y.console.stage ≡ Some h) × MakesAll g (calls_in uses) told h
    × AreAnswered x.console.answer uses told kinds y.console.answer

-- a handle that was opened holds a new session, which has answered nothing
abbrev pub HandlesBeginNew : Type 0
HandlesBeginNew = (new : Option Slot) → HandleGoes None opens new 1 → (x : Slot) × (new ≡ Some x) × (x.console.stage ≡ Some (Session new_journal)) × (x.console.answer ≡ Told.Silent)

-- if a session's exports ask for neither undo nor redo and did n commands, then n undos are each told `ok`, and the model is the one before
abbrev pub HandlesAreTakenBack : Type 0
HandlesAreTakenBack = (x y : Slot) (s t : Journal) (uses : List Use) (kinds others : List ℕ) (new : Option Slot) (n : ℕ) → x.console.stage ≡ Some (Session s) → y.console.stage ≡ Some (Session t)
    → Each StaysOpen uses → Each IsOnward (calls_in uses) → HandleGoesOn (Some x) uses kinds (Some y) → depth t.machine ≡ depth s.machine + n
    → HandleGoesOn (Some y) (replicate n (asks (calls (Give Undo)))) others new
    → (others ≡ replicate n 1) × (z : Slot) × (back : Journal) × (new ≡ Some z) × (z.console.stage ≡ Some (Session back)) × (held back.machine ≡ held s.machine)

-- a reader leaves what is lent as it is
abbrev pub ReadersLeaveHandles : Type 0
ReadersLeaveHandles = (old new : Option Loan) (n : ℕ) → new ≡ old → HandleGoes (slot_in old) reads (slot_in new) n
