-- The items of loops doubled by one cut, and then by others: as by all of them at once.
use Rattle.split_drawing_laws.proofs.Prelude.{◌≡◌, ℕ, ◌+◌, Bool, true, false, nat_eq, List, [], ◌∷◌, ◌++◌, refl, ap, ◌∙◌, arith, flat_map, fold, append-nil, nat_tests, count, IsIn, IsApart, IsRotation, canonical, plus, minus, tick_same, IsRotation-sym, canonical-rotates, canonical_same, Cut, cuts_from, doubled_in}
use Rattle.std.proofs.lemmas.Grind.{flat_map-append}
use Rattle.split_drawing_laws.proofs.crossings.OneCut.{tick_is, doubled}

-- the halves of an edge that isn't cut stay
pub halves_stay : (es : List ℕ) (k v x : ℕ) → count x es ≡ 0 → (doubled_in (cuts_from es k v) (plus x) ≡ plus x ∷ []) × (doubled_in (cuts_from es k v) (minus x) ≡ minus x ∷ [])
halves_stay [] k v x z = (refl, refl)
halves_stay (e ∷ es) k v x z = grind (arith, nat_tests, tick_is, halves_stay es (k + 1) (v + 1) x (omega (arith, z)))

module _ (es : List ℕ) (k v e : ℕ) (uncut : count e es ≡ 0) (fresh : count (k + 1) es ≡ 0) where
  abbrev others : List Cut
  others = cuts_from es (k + 1) (v + 1)

  one_item : (h : ℕ) → flat_map (doubled_in others) (doubled e (k + 1) h) ≡ doubled_in (cuts_from (e ∷ es) k v) h
  one_item h = by_half (nat_eq h (plus e)) (nat_eq h (minus e)) refl refl where
    by_half : (a b : Bool) → nat_eq h (plus e) ≡ a → nat_eq h (minus e) ≡ b → flat_map (doubled_in others) (doubled e (k + 1) h) ≡ doubled_in (cuts_from (e ∷ es) k v) h
    by_half true b is_a is_b = grind (arith, halves_stay es (k + 1) (v + 1) e uncut, halves_stay es (k + 1) (v + 1) (k + 1) fresh)
    by_half false true is_a is_b = grind (arith, halves_stay es (k + 1) (v + 1) e uncut, halves_stay es (k + 1) (v + 1) (k + 1) fresh)
    by_half false false is_a is_b = grind (arith, append-nil)

  pub all_items : (hs : List ℕ) → flat_map (doubled_in others) (flat_map (doubled e (k + 1)) hs) ≡ flat_map (doubled_in (cuts_from (e ∷ es) k v)) hs
  all_items [] = refl
  all_items (h ∷ hs) = flat_map-append (doubled_in others) (doubled e (k + 1) h) (flat_map (doubled e (k + 1)) hs) ∙ (λ i. one_item h i ++ all_items hs i)

-- a rotation stays one where items are rewritten
rotated : (f : ℕ → List ℕ) (xs ys : List ℕ) → IsRotation xs ys → IsRotation (flat_map f xs) (flat_map f ys)
rotated f xs ys r = record {
  front = flat_map f r.front;
  back = flat_map f r.back;
  here = ap (flat_map f) r.here ∙ flat_map-append f r.front r.back;
  there = ap (flat_map f) r.there ∙ flat_map-append f r.back r.front;
}

-- so it is enough to begin with the least item at the end
pub once_canonical : (f : ℕ → List ℕ) (xs : List ℕ) → IsApart (flat_map f (canonical xs)) → canonical (flat_map f (canonical xs)) ≡ canonical (flat_map f xs)
once_canonical f xs apart = canonical_same (flat_map f (canonical xs)) (flat_map f xs) (rotated f (canonical xs) xs (IsRotation-sym xs (canonical xs) (canonical-rotates xs))) apart

-- tables rewritten alike by each cut are alike
pub folds_agree : {X : Type 0} (f g : X → Cut → X) (es : List ℕ) (k v : ℕ) (t : X) →
    ((x : ℕ) → IsIn x es → (u : X) (c : Cut) → c.edge ≡ x → f u c ≡ g u c) → fold f t (cuts_from es k v) ≡ fold g t (cuts_from es k v)
folds_agree f g [] k v t agree = refl
folds_agree f g (e ∷ es) k v t agree =
    folds_agree f g es (k + 1) (v + 1) (f t (record { edge = e; added = k + 1; vertex = v + 1 })) (λ x i. agree x (omega (arith, i)))
    ∙ ap (λ u. fold g u (cuts_from es (k + 1) (v + 1))) (agree e (omega (arith, tick_same e)) t (record { edge = e; added = k + 1; vertex = v + 1 }) refl)
