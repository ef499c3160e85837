-- What C's calls do to the session behind a handle.
use Rattle.std.specs.Prelude.{◌≡◌, ◌⊎◌, ◌-◌, ◌^◌, ℕ, List, length, Option, Some, None}
use Rattle.session_slots.specs.Common.{Model, Told, taken_in, taken_of, Question, asked, status_of, refusal_in, counts_in, volume_in, plane_in, joined, joined_plane, shown, told_text, laid_over, WritesOne, Stage}
use Rattle.session_slots.specs.declared.{answers.Refused.Refused, answers.Counts.Counts, answers.Wide.Wide, answers.PlaneRow.PlaneRow, slot.Slot.Slot}
use Rattle.gwb_c.specs.FreshNumbers.{fresh_in}
use Rattle.gwb_c.specs.declared.fresh.Range.{Range}

-- a number that the session or the draft tells; a closed handle tells the greatest 64-bit number
abbrev pub Numbers : (Stage → ℕ) → Option Slot → ℕ → Type 0
Numbers f None n = n ≡ 2 ^ 64 - 1
Numbers f (Some x) n = (g : Stage) → x.console.stage ≡ Some g → n ≡ f g

-- the text of the answer, as far as there is room, and its length; or memory was refused, and nothing is written
abbrev pub Writes : List ℕ → List ℕ → List ℕ → ℕ → Type 0
Writes text old new n = ((n ≡ length text) × (new ≡ laid_over text old)) ⊎ ((n ≡ 2 ^ 64 - 1) × (new ≡ old))

-- the text of an answer; a closed handle has none
abbrev pub Says : (Slot → Told) → Option Slot → List ℕ → List ℕ → ℕ → Type 0
Says f None old new n = (n ≡ 2 ^ 64 - 1) × (new ≡ old)
Says f (Some x) old new n = (g : Stage) → x.console.stage ≡ Some g → Writes (told_text (shown g) (f x)) old new n

-- the text of the last answer, and the listing of the model shown
abbrev pub Replies : Option Slot → List ℕ → List ℕ → ℕ → Type 0
Replies o old new n = Says (λ x. x.console.answer) o old new n

abbrev pub Lists_model : Option Slot → List ℕ → List ℕ → ℕ → Type 0
Lists_model o old new n = Says (λ x. Told.Listing) o old new n

-- a value is written if it is there; else nothing is written
abbrev pub Gives : {X : Type 0} → Option X → X → X → ℕ → Type 0
Gives None old new told = (told ≡ 0) × (new ≡ old)
Gives (Some x) old new told = (told ≡ 1) × (new ≡ x)

-- the same for a value that is written in another form
abbrev pub GivesBy : {X Y : Type 0} → (Y → X) → Option X → Y → Y → ℕ → Type 0
GivesBy f None old new told = (told ≡ 0) × (new ≡ old)
GivesBy f (Some x) old new told = (told ≡ 1) × (f new ≡ x)

-- what an answer gives: what it refuses, what it counts, a volume and a plane
abbrev pub gives_refusal : Told → Refused → Refused → ℕ → Type 0
gives_refusal a = Gives (refusal_in a)

abbrev pub gives_counts : Told → Counts → Counts → ℕ → Type 0
gives_counts a = Gives (counts_in a)

abbrev pub gives_volume : Told → Wide → Wide → ℕ → Type 0
gives_volume a = GivesBy joined (volume_in a)

abbrev pub gives_plane : Told → PlaneRow → PlaneRow → ℕ → Type 0
gives_plane a = GivesBy joined_plane (plane_in a)

-- what the last answer gives; a closed handle has none
abbrev pub Recalls : {X : Type 0} → (Told → X → X → ℕ → Type 0) → Option Slot → X → X → ℕ → Type 0
Recalls G None old new told = (told ≡ 9) × (new ≡ old)
Recalls G (Some y) old new told = G y.console.answer old new told

-- a value of the model shown; a closed handle has none
abbrev pub Reads : {X : Type 0} → (Model → Option X) → Option Slot → X → X → ℕ → Type 0
Reads f None old new told = (told ≡ 9) × (new ≡ old)
Reads f (Some y) old new told = (g : Stage) → y.console.stage ≡ Some g → Gives (f (shown g)) old new told

-- a number that a relation to the model shown fixes; a closed handle has none
abbrev pub Finds : (Model → Option ℕ → Type 0) → Option Slot → ℕ → ℕ → ℕ → Type 0
Finds R None old new told = (told ≡ 9) × (new ≡ old)
Finds R (Some y) old new told = (g : Stage) → y.console.stage ≡ Some g → (n : Option ℕ) × R (shown g) n × Gives n old new told

-- the fresh numbers of the kind k; a closed handle has none
abbrev pub GivesFresh : ℕ → Option Slot → Range → Range → ℕ → Type 0
GivesFresh k None old new told = (told ≡ 9) × (new ≡ old)
GivesFresh k (Some y) old new told = (g : Stage) → y.console.stage ≡ Some g → Gives (fresh_in (taken_of y.before) (taken_in (shown g)) k) old new told

-- a list that a relation to the model shown allows; a closed handle has none
abbrev pub Lists : {X : Type 0} → (Model → List X → Type 0) → Option Slot → List X → List X → ℕ → Type 0
Lists R None old new n = (n ≡ 2 ^ 64 - 1) × (new ≡ old)
Lists R (Some y) old new n = (g : Stage) → y.console.stage ≡ Some g → WritesOne (R (shown g)) old new n

-- an answer in numbers: its kind, what it gives, and what it refuses; of these only what the answer has is written
abbrev pub Reports : {X : Type 0} → (Told → X → X → ℕ → Type 0) → Told → X → X → Refused → Refused → ℕ → Type 0
Reports G a old new was is kind = (kind ≡ status_of a) × (told : ℕ) × G a old new told × (refused : ℕ) × gives_refusal a was is refused

-- the answer to a question about the model shown; a closed handle has none
abbrev pub Measures : {X : Type 0} → (Told → X → X → ℕ → Type 0) → Question → Option Slot → X → X → Refused → Refused → ℕ → Type 0
Measures G q None old new was is kind = (kind ≡ 9) × (new ≡ old) × (is ≡ was)
Measures G q (Some x) old new was is kind = (g : Stage) → x.console.stage ≡ Some g → Reports G (asked (shown g) q) old new was is kind
