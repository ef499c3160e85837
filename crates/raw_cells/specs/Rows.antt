-- Rows by number.
use Rattle.std.specs.Prelude.{◌≡◌, ℕ, suc, ◌*◌, ◌≤◌, Bool, true, false, cond, List, [], ◌∷◌, length, Option, None, is_some, slice_index_or}
use Rattle.raw_cells.specs.Numbers.{uses}

-- row n, if there is one
abbrev pub row_at : {X : Type 0} → List (Option X) → ℕ → Option X
row_at rows n = slice_index_or rows n None

-- whether there is a row n
abbrev pub has_row : {X : Type 0} → List (Option X) → ℕ → Bool
has_row rows n = is_some (row_at rows n)

-- the cells of the numbers in use as rows
abbrev pub rows_of : {X : Type 0} → (ℕ → Bool) → List (Option X) → List (Option X)
rows_of used [] = []
rows_of used (x ∷ cells) = cond (used 0) x None ∷ rows_of (λ k. used (suc k)) cells

-- cells, the first of which are the room, and the numbers in use within the room, whose cells are written
pub record AreCells {X : Type 0} (cells : List (Option X)) (words : List ℕ) (room : ℕ) : Type 0 where
  pub limit : room ≤ 2000002
  pub fits : room ≤ length cells
  pub bits : room ≤ length words * 64
  pub beyond : (k : ℕ) → room ≤ k → uses words k ≡ false
  pub written : (k : ℕ) → uses words k ≡ true → has_row cells k ≡ true
