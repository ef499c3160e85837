-- The rows of codes, in three columns: where their nodes lie, their labels, and which of them are live.
use Rattle.std.specs.Prelude.{◌≡◌, ℕ, suc, ◌≤◌, Bool, true, false, List, [], ◌∷◌, length, Option, Some, None}
use Rattle.raw_cells.specs.Rows.{row_at, has_row}
use Rattle.raw_ring.specs.declared.node.NodePtr.{NodePtr}
use Rattle.raw_ring.specs.declared.row.Row.{Row}
use Rattle.raw_ring.specs.Rings.{or_zero}

abbrev pub or_false : Option Bool → Bool
or_false None = false
or_false (Some b) = b

-- the label of code q, and whether it is live
abbrev pub marks : List (Option ℕ) → List (Option Bool) → ℕ → ℕ × Bool
marks labels lives q = (or_zero (row_at labels q), or_false (row_at lives q))

-- the row of a place and its marks
abbrev pub with_marks : Option NodePtr → ℕ × Bool → Option Row
with_marks None m = None
with_marks (Some at) m = Some (record { at = at; label = m.0; live = m.1 })

abbrev pub joined : List (Option NodePtr) → (ℕ → ℕ × Bool) → List (Option Row)
joined [] m = []
joined (place ∷ places) m = with_marks place (m 0) ∷ joined places (λ k. m (suc k))

-- each place has its label, and a note whether it is live
pub record AreJoined (places : List (Option NodePtr)) (labels : List (Option ℕ)) (lives : List (Option Bool)) : Type 0 where
  pub reach_labels : length places ≤ length labels
  pub reach_lives : length places ≤ length lives
  pub labelled : (k : ℕ) → has_row places k ≡ true → has_row labels k ≡ true
  pub marked : (k : ℕ) → has_row places k ≡ true → has_row lives k ≡ true
