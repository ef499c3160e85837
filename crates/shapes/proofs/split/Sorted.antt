-- Places in the order of their points are the same places; and in pairs there are half as many.
use Rattle.shapes.proofs.Prelude.{◌≡◌, ℕ, suc, ◌+◌, ◌/◌, List, [], ◌∷◌, length, refl, ap, ◌∙◌, arith, Plane, count, tick, Model, sorted_in, sorted, in_pairs}

module _ (M : Model) (p : Plane) where
  count-sorted_in : (x h : ℕ) (ks : List ℕ) → count x (sorted_in M p h ks) ≡ tick x h + count x ks
  count-sorted_in x h [] = refl
  count-sorted_in x h (k ∷ ks) = grind (arith, count-sorted_in x h ks)

  -- each as often as before
  pub count-sorted : (x : ℕ) (hs : List ℕ) → count x (sorted M p hs) ≡ count x hs
  count-sorted x [] = refl
  count-sorted x (h ∷ hs) = count-sorted_in x h (sorted M p hs) ∙ ap (λ n. tick x h + n) (count-sorted x hs)

  length-sorted_in : (h : ℕ) (ks : List ℕ) → length (sorted_in M p h ks) ≡ suc (length ks)
  length-sorted_in h [] = refl
  length-sorted_in h (k ∷ ks) = grind (arith, length-sorted_in h ks)

  pub length-sorted : (hs : List ℕ) → length (sorted M p hs) ≡ length hs
  length-sorted [] = refl
  length-sorted (h ∷ hs) = length-sorted_in h (sorted M p hs) ∙ ap suc (length-sorted hs)

pub length-in_pairs : (hs : List ℕ) → length (in_pairs hs) ≡ length hs / 2
length-in_pairs [] = refl
length-in_pairs (h ∷ []) = refl
length-in_pairs (h ∷ k ∷ ks) = omega (arith, length-in_pairs ks)
