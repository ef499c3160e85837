-- Labels of rings, and the loops for which they stand.
use Rattle.std.specs.Prelude.{◌≡◌, ◌≢◌, ◌⊎◌, ℕ, ◌+◌, ◌<◌, ◌≤◌, Bool, true, List, [], ◌∷◌, ◌++◌, length, Option, slice_index_or, slice_set, vec_capacity}
use Rattle.std.specs.FinMap.{entries, entries_sorted, from_entries}
use Rattle.raw_ring.specs.Rings.{RingMap, Spot}
use Rattle.boundary_model.specs.Items.{count, IsIn, IsApart}
use Rattle.boundary_model.specs.Table.{Table, map_rows}
use Rattle.arena_rows.specs.declared.ring_spots.labels.Labels.{Labels}
use Rattle.arena_rows.specs.ring_spots.Spots.{Spots, live, label, ring, map_spot, AreRings}

-- the loop for which label n stands, or 0; for a free label, the next free one, or 0
abbrev pub loop_at : List ℕ → ℕ → ℕ
loop_at rows n = slice_index_or rows n 0

-- f is the first of the free labels, each of which leads to the next
abbrev pub IsChain : List ℕ → ℕ → List ℕ → Type 0
IsChain rows f [] = f ≡ 0
IsChain rows f (n ∷ ns) = (f ≡ n) × IsChain rows (loop_at rows n) ns

-- a live code that is not in hs has label n
abbrev pub IsUsed : Spots → List ℕ → ℕ → Type 0
IsUsed sp hs n = (c : ℕ) × (live sp c ≡ true) × (count c hs ≡ 0) × (label sp c ≡ n)

-- label 0 stands for no loop, and each other one that has a row is used or free
pub record IsTable (t : Labels) (used : ℕ → Type 0) : Type 0 where
  pub none : loop_at t.loops.items 0 ≡ 0
  pub frees : List ℕ
  pub chain : IsChain t.loops.items t.free frees
  pub apart : IsApart frees
  pub within : (n : ℕ) → IsIn n frees → (n ≢ 0) × (n < length t.loops.items)
  pub there : (n : ℕ) → n ≢ 0 → used n → (n < length t.loops.items) × (count n frees ≡ 0)
  pub taken : (n : ℕ) → n ≢ 0 → n < length t.loops.items → count n frees ≡ 0 → used n

-- there is room for the labels of the known codes, and a row where there is room
pub record HaveRoom (sp : Spots) (known : ℕ → Bool) (t : Labels) : Type 0 where
  pub live_known : (c : ℕ) → live sp c ≡ true → known c ≡ true
  pub room : (c : ℕ) → known c ≡ true → c + 2 < vec_capacity t.loops
  pub some : 0 < vec_capacity t.loops → 0 < length t.loops.items

-- each ring has a label of its own, but a ring of one may have label 0; nothing is said of labels in hs
pub record AreLabelledBut (sp : Spots) (known : ℕ → Bool) (t : Labels) (hs : List ℕ) : Type 0 where
  pub rings : AreRings sp
  pub room : HaveRoom sp known t
  pub table : IsTable t (IsUsed sp hs)
  pub alone : (c : ℕ) → live sp c ≡ true → count c hs ≡ 0 → label sp c ≡ 0 → ring sp c ≡ c ∷ []
  pub one : (c d : ℕ) → live sp c ≡ true → live sp d ≡ true → count c hs ≡ 0 → count d hs ≡ 0 → label sp c ≢ 0 → label sp d ≡ label sp c → IsIn d (ring sp c)

abbrev pub AreLabelled : Spots → (ℕ → Bool) → Labels → Type 0
AreLabelled sp known t = AreLabelledBut sp known t []

-- if none is free, there is room for one more
pub record CanHandOut (t : Labels) : Type 0 where
  pub first : t.free ≢ 0 → t.free < length t.loops.items
  pub room : t.free ≡ 0 → length t.loops.items < vec_capacity t.loops
  pub limit : t.free ≡ 0 → length t.loops.items ≤ 2000003

-- label n stands for loop l now
pub record StandsFor (old new : Labels) (n l : ℕ) : Type 0 where
  pub rows : new.loops.items ≡ slice_set old.loops.items n l
  pub free : new.free ≡ old.free
  pub room : vec_capacity new.loops ≡ vec_capacity old.loops

-- label n, which stands for loop l, is the first one that was free
pub record IsReused (old new : Labels) (n l : ℕ) : Type 0 where
  pub label : (n ≢ 0) × (n ≡ old.free)
  pub rows : new.loops.items ≡ slice_set old.loops.items n l
  pub free : new.free ≡ loop_at old.loops.items n

-- none was free, and label n, which stands for loop l, has a new row
pub record IsNew (old new : Labels) (n l : ℕ) : Type 0 where
  pub label : n ≡ length old.loops.items
  pub rows : new.loops.items ≡ old.loops.items ++ l ∷ []
  pub free : (old.free ≡ 0) × (new.free ≡ 0)

-- label n is handed out, and stands for loop l
pub record IsHandedOut (old new : Labels) (n l : ℕ) : Type 0 where
  pub either : IsReused old new n l ⊎ IsNew old new n l
  pub room : vec_capacity new.loops ≡ vec_capacity old.loops

-- label n is free now, unless it is 0
pub record IsTakenBack (old new : Labels) (n : ℕ) : Type 0 where
  pub none : n ≡ 0 → new ≡ old
  pub rows : n ≢ 0 → new.loops.items ≡ slice_set old.loops.items n old.free
  pub free : n ≢ 0 → new.free ≡ n
  pub room : vec_capacity new.loops ≡ vec_capacity old.loops

-- the same labels, with as much room or more; where there was no row there may be that of label 0
pub record HaveMoreRoom (old new : Labels) : Type 0 where
  pub rows : (new.loops.items ≡ old.loops.items) ⊎ ((old.loops.items ≡ []) × (new.loops.items ≡ 0 ∷ []))
  pub free : new.free ≡ old.free
  pub room : vec_capacity old.loops ≤ vec_capacity new.loops
  pub some : (0 < vec_capacity old.loops → 0 < length old.loops.items) → 0 < vec_capacity new.loops → 0 < length new.loops.items

-- what stands at a code, without its label
abbrev pub but_label : Option Spot → Option Spot
but_label o = map_spot (λ s. record s { label = 0 }) o

-- the same, with the loop in place of the label
abbrev pub with_loop : List ℕ → Spot → Spot
with_loop rows s = record s { label = loop_at rows s.label }

abbrev pub in_loops : List ℕ → Spots → Spots
in_loops rows sp q = map_spot (with_loop rows) (sp q)

abbrev pub rows_of : RingMap → Table (Option Spot)
rows_of m = record { rows = entries m; rising = entries_sorted m }

unfoldable pub map_in_loops : List ℕ → RingMap → RingMap
map_in_loops rows m = from_entries (map_rows (λ _ o. map_spot (with_loop rows) o) (rows_of m)).rows
