-- What mef makes of the loops of a sound model.
use Rattle.euler_laws.proofs.Prelude.{◌≡◌, ℕ, ◌+◌, List, [], ◌∷◌, ◌++◌, None, ap, ◌∙◌, arith, count, tick, upto, onward, mef_old, mef_new, mate, edge_of, Table, Model, cycle, LoopRow, loop_of, face_of, cycle_of, Sound, HasHalf, mef, count-canonical, count-append, edge_of-mate, row_of, not_held}
use Rattle.euler_operators.specs.Table as table
use Rattle.euler_laws.proofs.shared.Rows.{held_row}

pub count-mef_old : (x h c e : ℕ) (hs : List ℕ) → count x (mef_old h c e hs) ≡ tick x h + count x (onward c e hs)
count-mef_old x h c e hs = count-canonical x (h ∷ onward c e hs)

pub count-mef_new : (x m c e : ℕ) (hs : List ℕ) → count x (mef_new m c e hs) ≡ count x (upto c e hs) + tick x m
count-mef_new x m c e hs = count-canonical x (upto c e hs ++ m ∷ []) ∙ omega (arith, count-append x (upto c e hs) (m ∷ []))

-- what mef makes of a sound model, row by row
module _ (M : Model) (sound : Sound M) (g k h f l : ℕ)
    (g_there : HasHalf M g) (edge_free : table.get M.edges (edge_of h) ≡ None) (loop_free : table.get M.loops l ≡ None) where
  abbrev pub xs : List ℕ
  xs = cycle_of M g

  abbrev pub r : ℕ
  r = loop_of M g

  abbrev pub m : ℕ
  m = mate h

  -- the rows of the two loops that mef leaves, and the row before
  abbrev pub kept : LoopRow
  kept = record { face = face_of M r; content = cycle (mef_old h g k xs) }

  abbrev pub new : LoopRow
  new = record { face = f; content = cycle (mef_new m g k xs) }

  abbrev pub old : LoopRow
  old = record { face = face_of M r; content = cycle xs }

  abbrev pub loops' : Table LoopRow
  loops' = table.put (table.put M.loops r kept) l new

  pub no_h : count h xs ≡ 0
  no_h = not_held M sound h edge_free r old (row_of M sound g g_there)

  pub no_m : count m xs ≡ 0
  no_m = not_held M sound m (ap (table.get M.edges) (edge_of-mate h) ∙ edge_free) r old (row_of M sound g g_there)

  pub loops-mef : (mef M g k h f l).loops ≡ loops'
  unfolding mef
  loops-mef = ap (λ t. table.put t l new) (held_row M sound g g_there (λ hs. cycle (mef_old h g k hs)))
