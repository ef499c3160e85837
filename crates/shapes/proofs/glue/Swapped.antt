-- Rows of loops rewritten by a renaming, and by the same with one item replaced.
use Rattle.shapes.proofs.Prelude.{◌≡◌, ℕ, List, [], ◌∷◌, refl, sym, ap, ◌∙◌, arith, map, nat_tests, count, IsIn, IsApart, canonical, rest, Table, tables, same_table, LoopContent, LoopRow, lone, cycle, items_of, count-canonical, rewritten, rewritten_row}
use Rattle.euler_operators.specs.Table as table
use Rattle.shapes.proofs.glue.Renamings.{replaced, replaced_none, replaced_ring, map_agrees}

pub same_cycle : (xs ys : List ℕ) → cycle xs ≡ cycle ys → xs ≡ ys
same_cycle xs ys e = cc

pub never_cycle : (v : ℕ) (xs : List ℕ) → lone v ≡ cycle xs → ⊥
never_cycle v xs e = cc

map_two : (f g : ℕ → ℕ) (xs : List ℕ) → map f (map g xs) ≡ map (λ x. f (g x)) xs
map_two f g [] = refl
map_two f g (x ∷ xs) = ap (λ t. f (g x) ∷ t) (map_two f g xs)

module _ (old new : ℕ → ℕ) (m h : ℕ) (more : (u : ℕ) → new u ≡ replaced m h (old u)) where
  map_more : (cs : List ℕ) → map new cs ≡ map (replaced m h) (map old cs)
  map_more cs = map_agrees new (λ u. replaced m h (old u)) cs more ∙ sym (map_two (replaced m h) old cs)

  -- where m isn't, nothing changes
  pub content_stays : (c : LoopContent) → count m (items_of (rewritten (map old) c)) ≡ 0 → rewritten (map new) c ≡ rewritten (map old) c
  content_stays (lone v) e = refl
  content_stays (cycle cs) e = ap (λ q. cycle (canonical q)) (map_more cs ∙ replaced_none m h (map old cs) (sym (count-canonical m (map old cs)) ∙ e))

  pub row_stays : (p : ℕ) (row : LoopRow) → count m (items_of (rewritten (map old) row.content)) ≡ 0 → rewritten_row (map new) p row ≡ rewritten_row (map old) p row
  row_stays p row e = ap (λ c. record { face = row.face; content = c }) (content_stays row.content e)

  -- where m is, h comes in its place
  pub content_turns : (c : LoopContent) (ns : List ℕ) → rewritten (map old) c ≡ cycle ns → IsApart ns → IsIn m ns → count h ns ≡ 0 → rewritten (map new) c ≡ cycle (canonical (h ∷ rest m ns))
  content_turns (lone v) ns e d i n = absurd (never_cycle v ns e)
  content_turns (cycle cs) ns e d i n = grind (arith, same_cycle, count-canonical, map_more, replaced_ring)

  pub row_turns : (p f : ℕ) (row : LoopRow) (ns : List ℕ) → rewritten_row (map old) p row ≡ record { face = f; content = cycle ns } → IsApart ns → IsIn m ns → count h ns ≡ 0 →
      rewritten_row (map new) p row ≡ record { face = f; content = cycle (canonical (h ∷ rest m ns)) }
  row_turns p f row ns e d i n = λ j. record { face = ap (λ r. r.face) e j; content = content_turns row.content ns (ap (λ r. r.content) e) d i n j }

-- ---- tables

pub map_agree : {X : Type 0} (f g : ℕ → X → X) (t : Table X) → ((q : ℕ) (x : X) → f q x ≡ g q x) → table.map_rows f t ≡ table.map_rows g t
map_agree {X = X} f g t e = grind arith

pub map_removed : {X : Type 0} (f : ℕ → X → X) (t : Table X) (n : ℕ) → table.map_rows f (table.remove t n) ≡ table.remove (table.map_rows f t) n
map_removed f t n = same_table _ _ (λ q. grind (arith, nat_tests, tables))
