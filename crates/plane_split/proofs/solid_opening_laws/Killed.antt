-- The risers killed one after the other, and what is left then of the operators that make caps.
use Rattle.plane_split.proofs.Prelude.{◌≡◌, ℕ, suc, ◌+◌, ◌-◌, ◌*◌, ◌≤◌, ◌<◌, List, [], ◌∷◌, ◌++◌, map, None, refl, sym, ap, ◌∙◌, subst, append_assoc, arith, HalfEdge, half, plus, minus, Model, first_false, effect, Op, Kef, Kemr, Mfkrh, AreAccepted, effects, Taken, numbers_after, joinings, partings, cap_ops, Leads, AreAccepted-front, some_taken}

-- the edges after k up to the last go
abbrev pub kills : ℕ → ℕ → List Op
kills k last = map (λ e. Kef (half (minus e))) (numbers_after k (last - k))

-- these are the joinings at first
pub all_kills : (c : Taken) (m : ℕ) → 1 ≤ m → kills (c.edge + m + 1) (c.edge + 2 * m) ≡ joinings c m (m - 1)
all_kills c m some = ap (λ n. map (λ e. Kef (half (minus e))) (numbers_after (c.edge + m + 1) n)) (omega arith)

-- and none at last
pub no_kills : (k last : ℕ) → last ≤ k → kills k last ≡ []
no_kills k last le = ap (λ n. map (λ e. Kef (half (minus e))) (numbers_after k n)) (let e : last - k ≡ 0 = omega arith in e)

kills_next : (k last : ℕ) → k < last → kills k last ≡ Kef (half (minus (k + 1))) ∷ kills (k + 1) last
kills_next k last lt = ap (λ n. map (λ e. Kef (half (minus e))) (numbers_after k n)) (let e : last - k ≡ suc (last - (k + 1)) = omega arith in e)

module _ (N : Model) (k last : ℕ) (lt : k < last) (accepted : AreAccepted N (kills k last)) (h : HalfEdge) (is : h ≡ half (minus (k + 1))) where
  next_first : AreAccepted N (Kef (half (minus (k + 1))) ∷ kills (k + 1) last)
  next_first = subst (AreAccepted N) (kills_next k last lt) accepted

  -- the next riser can go
  pub kill_goes : first_false N (Kef h) ≡ None
  kill_goes = ap (λ g. first_false N (Kef g)) is ∙ next_first.0

  module _ (K : Model) (e : K ≡ effect N (Kef h)) where
    gone : K ≡ effect N (Kef (half (minus (k + 1))))
    gone = e ∙ ap (λ g. effect N (Kef g)) is

    -- then the others can
    pub kills_go : AreAccepted K (kills (k + 1) last)
    kills_go = subst (λ Y. AreAccepted Y (kills (k + 1) last)) (sym gone) next_first.1

-- the next one goes, and then the others
pub kill_and_others : (k last : ℕ) → k < last → (h : HalfEdge) → h ≡ half (minus (k + 1)) → Kef h ∷ kills (k + 1) last ≡ kills k last
kill_and_others k last lt h is = ap (λ g. Kef g ∷ kills (k + 1) last) is ∙ sym (kills_next k last lt)

-- ---- the caps

module _ (N : Model) (c : Taken) (m : ℕ) (accepted : AreAccepted N (cap_ops c m)) where
  pub joinings_go : AreAccepted N (joinings c m (m - 1))
  unfolding cap_ops
  joinings_go = AreAccepted-front N (joinings c m (m - 1)) (partings c m) accepted

  -- once the strips are joined these two remain
  pub partings_left : (K : Model) → K ≡ effects N (joinings c m (m - 1)) → (h : HalfEdge) → h ≡ half (plus (c.edge + m + 1))
      → Leads K (effects N (cap_ops c m)) (Kemr h (c.loop + m + 1) ∷ Mfkrh (c.loop + m + 1) (c.face + m + 1) ∷ [])
  unfolding cap_ops
  partings_left K e h is = subst (λ g. Leads K (effects N (cap_ops c m)) (Kemr g (c.loop + m + 1) ∷ Mfkrh (c.loop + m + 1) (c.face + m + 1) ∷ [])) (sym is)
      (some_taken N (joinings c m (m - 1)) (partings c m) (effects N (cap_ops c m)) K accepted refl e)

-- all of them, as the code writes them
pub caps_are : (c : Taken) (m : ℕ) (h : HalfEdge) → h ≡ half (plus (c.edge + m + 1)) → (joinings c m (m - 1) ++ Kemr h (c.loop + m + 1) ∷ []) ++ Mfkrh (c.loop + m + 1) (c.face + m + 1) ∷ [] ≡ cap_ops c m
unfolding cap_ops
caps_are c m h is =
    append_assoc (joinings c m (m - 1)) (Kemr h (c.loop + m + 1) ∷ []) (Mfkrh (c.loop + m + 1) (c.face + m + 1) ∷ [])
    ∙ ap (λ g. joinings c m (m - 1) ++ Kemr g (c.loop + m + 1) ∷ Mfkrh (c.loop + m + 1) (c.face + m + 1) ∷ []) is
