-- Whether a text is the listing of the model that a handle of C shows.
use Rattle.std.specs.Prelude.{◌≡◌, ◌≢◌, ◌⊎◌, ℕ, List, Option, Some, None}
use Rattle.call_lists.specs.Common.{IsWhole, Stage}
use Rattle.euler_operators.specs.Common.{Sound}
use Rattle.session_slots.specs.Common.{Model, shown}
use Rattle.session_slots.specs.declared.slot.Slot.{Slot}
use Rattle.solid_listing.specs.Listing.{listing}

-- C is told 1 of the listing of a model, 0 of any other text, or 4: memory was refused
abbrev pub JudgesText : Model → List ℕ → ℕ → Type 0
JudgesText M text n = ((n ≡ 1) × (text ≡ listing M)) ⊎ ((n ≡ 0) × (text ≢ listing M)) ⊎ (n ≡ 4)

-- the text is judged by the model shown; a closed handle has none
abbrev pub HandleJudgesText : Option Slot → List ℕ → ℕ → Type 0
HandleJudgesText None text n = n ≡ 9
HandleJudgesText (Some x) text n = (g : Stage) → x.console.stage ≡ Some g → JudgesText (shown g) text n

-- what is shown where a text is said to be its listing is the only sound model with this listing
abbrev pub ListedIsHeld : Type 0
ListedIsHeld = (x : Slot) (g : Stage) (text : List ℕ) (M : Model) → x.console.stage ≡ Some g → IsWhole g → HandleJudgesText (Some x) text 1
    → Sound M → listing M ≡ text → shown g ≡ M
