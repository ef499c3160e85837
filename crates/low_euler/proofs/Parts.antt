-- The first items of the two parts of a ring that is cut at two of its items.
use Rattle.low_euler.proofs.Prelude.{◌≡◌, ◌≢◌, ℕ, cond, nat_eq, List, [], ◌∷◌, ◌++◌, sym, ap, ◌∙◌, arith, eqb_tells, count, IsIn, IsApart, head_or, rotate_to, rest, between, beyond, successor, At, Lone, half, corner_of, count-append, count-before, before_at, tick_same, tick_other, rest_same, rotate_to-rotates, rest_at, ring_split, apart_split, nat_eq_itself, after_first}
use Rattle.euler_operators.specs.Items.{before}

-- the corner of a list that stands before b, by the item that comes next
corner_cases : (xs : List ℕ) (b l : ℕ) → count b xs ≡ 0 → corner_of xs l ≡ cond (nat_eq (head_or b xs) b) (Lone l) (At (half (head_or b xs)))
corner_cases [] b l n = sym (ap (λ t. cond t (Lone l) (At (half b))) (nat_eq_itself b))
corner_cases (x ∷ xs) b l n = grind (arith, eqb_tells x b, tick_same b)

module _ (hs : List ℕ) (d : IsApart hs) (a b : ℕ) (i : IsIn a hs) (j : IsIn b hs) (ne : a ≢ b) where
  pub corner_between : (l : ℕ) → corner_of (between a b hs) l ≡ cond (nat_eq (successor hs a) b) (Lone l) (At (half (successor hs a)))
  corner_between l =
      corner_cases (between a b hs) b l (count-before b (rest a hs))
      ∙ ap (λ s. cond (nat_eq s b) (Lone l) (At (half s))) (sym (after_first hs d a b i j ne))

  parts : IsApart ((a ∷ between a b hs) ++ b ∷ beyond a b hs)
  parts = apart_split a b hs d i j ne

  -- what stands after b and before a stands between b and a
  pub between_back : between b a hs ≡ beyond a b hs
  between_back =
      let X : List ℕ = between a b hs in
      let Y : List ℕ = beyond a b hs in
      let nb : count b (a ∷ X) ≡ 0 = omega (arith, parts b, count-append b (a ∷ X) (b ∷ Y), tick_same b) in
      let na : count a Y ≡ 0 = omega (arith, parts a, count-append a (a ∷ X) (b ∷ Y), tick_same a, tick_other a b ne) in
      ap (before a) (rest_same b hs (rotate_to a hs) (rotate_to-rotates a hs) d j ∙ ap (rest b) (ring_split a b hs i j ne) ∙ rest_at b (a ∷ X) Y nb) ∙ before_at a Y X na
