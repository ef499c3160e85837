-- The edges of a solid that cross a plane, sorted after a walk over its faces has met them.
use Rattle.split_checks.proofs.Prelude.{◌≡◌, ℕ, suc, true, ◌&&◌, List, [], ◌∷◌, refl, ap, ◌∙◌, arith, inl, inr, IsPermutation, IsSorted, nat_cmp, lt-ltb, IsNonDecreasing, length_permutation, IsNonDecreasingBy-from_sort, Plane, tick, IsApart, Model, faces_of, Sound, strictly_rises, tick_same, less_or_same, SameItems-from_permutation, within, IsIn-from_listed, listed-from_in, Rising, crossing_edges}
use Rattle.split_checks.specs.cut_places.Crossings.{crossings_met}
use Rattle.split_checks.proofs.cut_places_laws.Edges.{as_many, met_apart, met_crosses, rising}

-- different numbers that don't fall rise
rises : (xs : List ℕ) → IsNonDecreasing xs → IsApart xs → strictly_rises xs ≡ true
rises [] up apart = refl
rises (x ∷ []) up apart = refl
rises (x ∷ y ∷ ys) up apart = elim (less_or_same x y (up 0 1 0 (omega arith) (omega arith))) [
  | inl l ↦ ap (λ b. b && strictly_rises (y ∷ ys)) (lt-ltb x y l) ∙ rises (y ∷ ys) (λ i j d l m. up (suc i) (suc j) d (omega (arith, l)) (omega (arith, m))) (λ z. omega (arith, apart z))
  | inr e ↦ absurd (omega (arith, apart x, tick_same x, ap (tick x) e))
]

from_rising : (xs : List ℕ) → Rising xs → strictly_rises xs ≡ true
from_rising [] r = refl
from_rising (x ∷ []) r = refl
from_rising (x ∷ y ∷ ys) r = ap (λ b. b && strictly_rises (y ∷ ys)) (lt-ltb x y r.0.0) ∙ from_rising (y ∷ ys) r.1

pub crossings_rise : (M : Model) → Sound M → (s : ℕ) (p : Plane) → strictly_rises (crossing_edges M p s) ≡ true
crossings_rise M sound s p = from_rising (crossing_edges M p s) (rising M sound s p)

-- the edges met, sorted, are those of the solid that cross, rising
pub sorted_crossings : (M : Model) → Sound M → (s : ℕ) (p : Plane) (es : List ℕ) → IsPermutation (crossings_met M p (faces_of M s)) es → IsSorted nat_cmp es → es ≡ crossing_edges M p s
sorted_crossings M sound s p es moved sorted =
    let met = crossings_met M p (faces_of M s) in
    let same = SameItems-from_permutation met es moved in
    let up = rises es (IsNonDecreasingBy-from_sort (λ x. x) es sorted) (λ x. omega (arith, met_apart M sound s p x, same x)) in
    let w = within es (crossing_edges M p s) up (crossings_rise M sound s p)
    (λ q l. listed-from_in q (crossing_edges M p s) (met_crosses M sound s p q (omega (arith, same q, IsIn-from_listed q es l)))) in
    w.1 (length_permutation met es moved ∙ as_many M sound s p)
