-- The faces of a solid, met in the order of their numbers.
use Rattle.low_euler.proofs.Prelude.{◌≡◌, ◌≢◌, ℕ, ◌<◌, ◌≤◌, Bool, true, false, cond, nat_eq, nat_lt, T, ◌&&◌, List, [], ◌∷◌, ◌++◌, append-nil, Some, None, is_some, unwrap_or, refl, sym, ap, ◌∙◌, arith, inl, inr, nat_cmp, nat_tests, eqb_tells, and_parts, false_from_ne_true, Table, get, all_where, all_in, Model, FaceRow, no_face, solid_of, faces_of, is_number, NumbersFit, and_left, and_right, all_where_none, find_here, find_later, row_some, and_first, found_past, is_face_of, IsNextFace}
use Rattle.std.specs.FinMap.Entries.{find, is_sorted}
use Rattle.std.proofs.lemmas.Option.{same_Some}
use Rattle.euler_operators.specs.Table as table

-- ---- the numbers of a table whose rows pass a test

apart : (k q : ℕ) → k < q → q ≢ k
apart k q l e = absurd (omega arith)

module _ {X : Type 0} where
  -- tests that agree on each row pick the same numbers
  agree_in : (p q : ℕ → X → Bool) (es : List (ℕ × X)) → T (is_sorted nat_cmp es) → ((k : ℕ) (x : X) → find nat_cmp k es ≡ Some x → p k x ≡ q k x) → all_in p es ≡ all_in q es
  agree_in p q [] s same = refl
  agree_in p q (e ∷ es) s same =
      let rest : all_in p es ≡ all_in q es = agree_in p q es (and_right _ _ s)
      (λ k x at. same k x (find_later k e es (apart e.0 k (found_past e.0 k es x (and_left _ _ s) at)) ∙ at)) in
      λ i. cond (same e.0 e.1 (find_here e es) i) (e.0 ∷ rest i) (rest i)

  pub agree : (p q : ℕ → X → Bool) (t : Table X) → ((k : ℕ) (x : X) → get t k ≡ Some x → p k x ≡ q k x) → all_where p t ≡ all_where q t
  unfolding all_where get
  agree p q t same = agree_in p q t.rows t.rising same

  later : (ℕ → X → Bool) → ℕ → ℕ → X → Bool
  later p m k x = nat_lt m k && p k x

  next_in : (p : ℕ → X → Bool) (m : ℕ) (x : X) (es : List (ℕ × X)) → T (is_sorted nat_cmp es) → find nat_cmp m es ≡ Some x → p m x ≡ true
      → ((k : ℕ) (y : X) → find nat_cmp k es ≡ Some y → p k y ≡ true → m ≤ k) → all_in p es ≡ m ∷ all_in (later p m) es
  unfolding later
  next_in p m x [] s at passes least = cc
  next_in p m x (e ∷ es) s at passes least = elim (eqb_tells m e.0) [
    | inl same ↦
        let value : x ≡ e.1 = same_Some x e.1 (sym at ∙ ap (λ k. find nat_cmp k (e ∷ es)) same.1 ∙ find_here e es) in
        let t : p e.0 e.1 ≡ true = (λ i. p (sym same.1 i) (sym value i)) ∙ passes in
        let skip : nat_lt m e.0 ≡ false = let q : m ≡ e.0 = same.1 in grind (arith, nat_tests) in
        let rest : all_in p es ≡ all_in (later p m) es = agree_in p (later p m) es (and_right _ _ s)
        (λ k y found. sym (ap (λ b. b && p k y) (more m e.0 k same.1 (found_past e.0 k es y (and_left _ _ s) found)))) in
        ap (λ b. cond b (e.0 ∷ all_in p es) (all_in p es)) t
        ∙ (λ i. sym same.1 i ∷ rest i)
        ∙ ap (λ (ks : List ℕ). m ∷ ks) (sym (ap (λ b. cond (b && p e.0 e.1) (e.0 ∷ all_in (later p m) es) (all_in (later p m) es)) skip))
    | inr other ↦
        let found : find nat_cmp m es ≡ Some x = sym (find_later m e es other.1) ∙ at in
        let past : e.0 < m = found_past e.0 m es x (and_left _ _ s) found in
        let skip : nat_lt m e.0 ≡ false = grind (arith, nat_tests) in
        let fails : p e.0 e.1 ≡ false = false_from_ne_true (p e.0 e.1) (λ t. too_low e.0 m past (least e.0 e.1 (find_here e es) t)) in
        ap (λ b. cond b (e.0 ∷ all_in p es) (all_in p es)) fails
        ∙ next_in p m x es (and_right _ _ s) found passes (λ k y f t. least k y (find_later k e es (apart e.0 k (found_past e.0 k es y (and_left _ _ s) f)) ∙ f) t)
        ∙ ap (λ (ks : List ℕ). m ∷ ks) (sym (ap (λ b. cond (b && p e.0 e.1) (e.0 ∷ all_in (later p m) es) (all_in (later p m) es)) skip))
  ] where
    more : (m a k : ℕ) → m ≡ a → a < k → nat_lt m k ≡ true
    more m a k e l = grind (arith, nat_tests)

    too_low : (a m : ℕ) → a < m → m ≤ a → ⊥
    too_low a m l h = absurd (omega arith)

  -- the least number whose row passes, and then those above it
  pub next_where : (p : ℕ → X → Bool) (t : Table X) (m : ℕ) (x : X) → get t m ≡ Some x → p m x ≡ true → ((k : ℕ) (y : X) → get t k ≡ Some y → p k y ≡ true → m ≤ k) → all_where p t ≡ m ∷ all_where (λ k y. nat_lt m k && p k y) t
  unfolding all_where get later
  next_where p t m x at passes least = next_in p m x t.rows t.rising at passes least

-- ---- the faces of a solid

module _ (M : Model) (n : ℕ) where
  -- the faces of the solid above a number
  abbrev pub faces_above : ℕ → List ℕ
  faces_above last = all_where (λ k row. nat_lt last k && nat_eq row.solid n) M.faces

  pub row_tells : (k : ℕ) (row : FaceRow) → get M.faces k ≡ Some row → is_face_of M n k ≡ nat_eq row.solid n
  unfolding solid_of
  row_tells k row at = (λ i. is_some (at i) && nat_eq (unwrap_or (at i) no_face).solid n)

  pub row_there : (k : ℕ) → is_face_of M n k ≡ true → (row : FaceRow) × (get M.faces k ≡ Some row) × (nat_eq row.solid n ≡ true)
  row_there k e = let r = row_some (get M.faces k) (and_first (table.has M.faces k) (nat_eq (solid_of M k) n) e) in (r.0, r.1, sym (row_tells k r.0 r.1) ∙ e)

  pub next_faces : (last m : ℕ) → IsNextFace M n last (Some m) → faces_above last ≡ m ∷ faces_above m
  next_faces last m next =
      let r = row_there m next.1 in
      let l : last < m = next.0 in
      let up : nat_lt last m ≡ true = grind (arith, nat_tests) in
      next_where (λ k row. nat_lt last k && nat_eq row.solid n) M.faces m r.0 r.1 (λ i. up i && r.2 i)
      (λ k y at passes. least k y at (and_parts (nat_lt last k) (nat_eq y.solid n) passes).0 (and_parts (nat_lt last k) (nat_eq y.solid n) passes).1)
      ∙ ap (λ (ks : List ℕ). m ∷ ks) (agree (λ k row. nat_lt m k && (nat_lt last k && nat_eq row.solid n)) (λ k row. nat_lt m k && nat_eq row.solid n) M.faces (λ k y at. shorter last m k (nat_eq y.solid n) l)) where
        shorter : (last m k : ℕ) (b : Bool) → last < m → (nat_lt m k && (nat_lt last k && b)) ≡ (nat_lt m k && b)
        shorter last m k b l = grind (arith, nat_tests)

        least : (k : ℕ) (y : FaceRow) → get M.faces k ≡ Some y → nat_lt last k ≡ true → nat_eq y.solid n ≡ true → m ≤ k
        least k y at up same = grind (arith, nat_tests, row_tells k y at, next.2 k)

  pub no_faces : (last : ℕ) → IsNextFace M n last None → faces_above last ≡ []
  no_faces last next = all_where_none (λ k row. nat_lt last k && nat_eq row.solid n) M.faces (λ k y at. grind (arith, nat_tests, row_tells k y at, next k))

  pub all_faces : NumbersFit M.faces → faces_above 0 ≡ faces_of M n
  all_faces fit = agree (λ k row. nat_lt 0 k && nat_eq row.solid n) (λ k row. nat_eq row.solid n) M.faces (λ k y at. ap (λ b. b && nat_eq y.solid n) (positive k (fit k (ap is_some at)))) where
    positive : (k : ℕ) → is_number k ≡ true → nat_lt 0 k ≡ true
    positive k e = grind (arith, nat_tests)

-- a list to which nothing is left to add
pub all_met : (fs gs all : List ℕ) → fs ++ gs ≡ all → gs ≡ [] → fs ≡ all
all_met fs gs all e none = sym (append-nil fs) ∙ ap (λ ks. fs ++ ks) (sym none) ∙ e
