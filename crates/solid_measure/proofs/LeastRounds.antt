-- The least half-edge that a walk round a loop has met.
use Rattle.solid_measure.proofs.Prelude.{◌≡◌, ◌≢◌, ℕ, ◌+◌, ◌≤◌, min, List, [], ◌∷◌, ◌++◌, sym, ap, subst, ◌∙◌, arith, ◌⊎◌, inl, inr, eqb_tells, least, head_or, IsIn, IsRotation, Model, items_of, content, after, Sound, count-append, tick_other, least_le, least_in, IsRotation-same, head_canonical, steps, Round, round_start, round_more, round_closed, round_ended, items_from_least}

-- the walk has come to h; k is an item, and nothing that was met is less
pub record LeastRound (M : Model) (l first h n k : ℕ) : Type 0 where
  pub round : Round M l first h n
  pub item : IsIn k (items_of (content M l))
  pub below : (x : ℕ) → IsIn x round.met → k ≤ x

module _ (M : Model) (sound : Sound M) (l first : ℕ) (item : IsIn first (items_of (content M l))) where
  pub least_start : LeastRound M l first first steps first
  least_start = record { round = round_start M sound l first item; item = item; below = λ x i. absurd (omega arith) }

  least_is : (k : ℕ) (ys : List ℕ) → IsIn k (items_of (content M l)) → IsRotation (items_of (content M l)) ys → ((x : ℕ) → IsIn x ys → k ≤ x) → k ≡ head_or 0 (items_of (content M l))
  least_is k ys i r b =
      let xs = items_of (content M l) in
      let low : least xs ≤ k = least_le xs k i in
      let high : k ≤ least xs = b (least xs) (omega (arith, least_in xs k i, IsRotation-same xs ys r (least xs))) in
      let same : k ≡ least xs = omega (arith, low, high) in
      same ∙ sym (head_canonical xs) ∙ ap (head_or 0) (items_from_least M sound l first item)

  module _ (h n k : ℕ) (w : LeastRound M l first h n k) where
    pub least_ended : n ≡ 0 → k ≡ head_or 0 (items_of (content M l))
    least_ended z = least_is k w.round.met w.item (round_ended M sound l first item h n w.round z) w.below

    module _ (j : ℕ) (more : n ≡ j + 1) (next : ℕ) (lower : next ≡ min k h) where
      pub lower_item : IsIn next (items_of (content M l))
      lower_item = elim (either k h next lower) [ inl e ↦ subst (λ y. IsIn y (items_of (content M l))) (sym e) w.item | inr e ↦ subst (λ y. IsIn y (items_of (content M l))) (sym e) w.round.here ] where
        either : (a b c : ℕ) → c ≡ min a b → (c ≡ a) ⊎ (c ≡ b)
        either a b c e = grind arith

      lower_all : (x : ℕ) → IsIn x (w.round.met ++ h ∷ []) → next ≤ x
      lower_all x i = elim (eqb_tells x h) [
        | inl e ↦ omega (arith, lower, e.1)
        | inr e ↦ omega (arith, lower, w.below x (omega (arith, count-append x w.round.met (h ∷ []), tick_other x h e.1)))
      ]

      pub least_closed : after M h ≡ first → next ≡ head_or 0 (items_of (content M l))
      least_closed e = least_is next (w.round.met ++ h ∷ []) lower_item (round_closed M sound l first item h n j w.round more e) lower_all

      pub least_more : after M h ≢ first → LeastRound M l first (after M h) j next
      least_more ne = record { round = round_more M sound l first item h n j w.round more ne; item = lower_item; below = lower_all }
