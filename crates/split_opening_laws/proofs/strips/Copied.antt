-- The renaming of the first vertices of a cycle to their copies.
use Rattle.split_opening_laws.proofs.Prelude.{◌≡◌, ◌≢◌, ℕ, suc, ◌+◌, ◌≤◌, ◌<◌, cond, nat_eq, zero, None, List, [], ◌∷◌, ◌++◌, length, sym, ap, ◌∙◌, arith, inl, inr, map, get_or, length-map, get_or-map, Model, tail, point_of, get-put_other, Taken, numbers_after, renamed, with_copies, copied, CanBeOpened, numbers_last}
use Rattle.std.proofs.lemmas.List.Sums.{fold-append}
use Rattle.euler_operators.specs.Table as table
use Rattle.split_opening_laws.proofs.sections.Numbered.{length-numbers_after, numbers_at, in_numbers, both_more, both_none, renamed_cases, misses_both, renamed_more}
use Rattle.split_opening_laws.proofs.strips.Cycle as on

module _ (M : Model) (above : List ℕ) (s : ℕ) (c : Taken) (bs : List ℕ) (w : CanBeOpened M above s c bs) where
  start_get : (j : ℕ) → j < length bs → get_or (map (tail M) bs) j 0 ≡ tail M (get_or bs j 0)
  start_get j lt = get_or-map (tail M) bs j 0 0 lt

  -- one of these vertices becomes its copy
  pub copy_at : (i j : ℕ) → j < i → j < length bs → renamed (copied M c bs i) (tail M (get_or bs j 0)) ≡ c.vertex + suc j
  copy_at i j lt below = elim (renamed_cases (map (tail M) bs) (numbers_after c.vertex i) (tail M (get_or bs j 0))) [
    | inl p ↦
        let under : p.0 < length bs = omega (arith, p.1, length-map bs (tail M)) in
        let same : p.0 ≡ j = on.starts_differ M above s c bs w p.0 j under below (sym (start_get p.0 under) ∙ p.3) in
        p.4 ∙ numbers_at c.vertex i p.0 (omega (arith, p.2, length-numbers_after c.vertex i)) ∙ ap (λ n. c.vertex + suc n) same
    | inr p ↦ absurd (p.1 j (omega (arith, below, length-map bs (tail M))) (omega (arith, lt, length-numbers_after c.vertex i)) (start_get j below))
  ]

  -- another one stays
  pub copy_other : (i v : ℕ) → ((j : ℕ) → j < i → j < length bs → tail M (get_or bs j 0) ≢ v) → renamed (copied M c bs i) v ≡ v
  copy_other i v none = grind (arith, renamed_cases, length-map, length-numbers_after, start_get)

  -- what becomes a vertex that was there was that vertex
  pub copy_back : (i v u : ℕ) → u ≤ c.vertex → renamed (copied M c bs i) v ≡ u → v ≡ u
  copy_back i v u low e = grind (arith, renamed_cases, numbers_at, length-numbers_after)

  start_low : (j : ℕ) → j < length bs → tail M (get_or bs j 0) ≤ c.vertex
  start_low j lt = on.low_vertex M above s c bs w (get_or bs j 0) (on.half_there M above s c bs w j lt)

  pub copied_next : (i : ℕ) → i < length bs → copied M c bs (suc i) ≡ copied M c bs i ++ (tail M (get_or bs i 0), c.vertex + suc i) ∷ []
  copied_next i lt = grind (arith, numbers_last, both_more, length-map, length-numbers_after, start_get)

  -- one vertex more
  pub copy_next : (i v : ℕ) → i < length bs → renamed (copied M c bs (suc i)) v ≡ cond (nat_eq (renamed (copied M c bs i) v) (tail M (get_or bs i 0))) (c.vertex + suc i) (renamed (copied M c bs i) v)
  copy_next i v lt =
      ap (λ ps. renamed ps v) (copied_next i lt)
      ∙ renamed_more (copied M c bs i) (tail M (get_or bs i 0)) (c.vertex + suc i) v
      (misses_both (tail M (get_or bs i 0)) (map (tail M) bs) (numbers_after c.vertex i) (λ y j e. omega (arith, e, start_low i lt, (in_numbers c.vertex i y j).0)))

  -- the vertices with one copy more
  pub points_next : (i : ℕ) → i < length bs → with_copies M (copied M c bs (suc i)) ≡ table.put (with_copies M (copied M c bs i)) (c.vertex + suc i) (point_of M (tail M (get_or bs i 0)))
  points_next i lt = ap (with_copies M) (copied_next i lt) ∙ fold-append (λ t q. table.put t q.1 (point_of M q.0)) M.vertices (copied M c bs i) ((tail M (get_or bs i 0), c.vertex + suc i) ∷ [])

  -- no vertex has a copy at first
  pub none_copied : copied M c bs 0 ≡ []
  none_copied = both_none (map (tail M) bs)

  -- numbers above the copies stay free
  pub points_free : (i q : ℕ) → i ≤ length bs → c.vertex + i < q → table.get (with_copies M (copied M c bs i)) q ≡ None
  points_free zero q le lt = ap (λ ps. table.get (with_copies M ps) q) none_copied ∙ w.free.vertices q (omega arith)
  points_free (suc i) q le lt = grind (arith, points_next, get-put_other, points_free i q (omega arith) (omega arith))
