-- The halves in faces below, sorted by their edges after a walk over faces has met them.
use Rattle.split_sections.proofs.Prelude.{◌≡◌, ℕ, suc, ◌<◌, true, ◌&&◌, List, [], ◌∷◌, map, refl, sym, ap, ◌∙◌, arith, true≢false, inl, inr, IsPermutation, lt-ltb, IsPermutation-map, tick, IsIn, IsApart, SameItems, HalfEdge, code, edge_of, Model, Sound, strictly_rises, tick_same, edge_of-code, same_edge, less_or_same, SameItems-from_permutation, within, IsIn-from_listed, listed-from_in, below_halves, IsBelowHalf, halves_rise, halves_apart, halves_are, are_halves, AreSectionHalves}
use Rattle.std.specs.List.Sorted.{IsNonDecreasingBy}
use Rattle.split_checks.proofs.HowMany.{equally_many}

-- a half of a lesser edge comes first in the order of listings
lesser_edge : (m n : ℕ) → edge_of m < edge_of n → m < n
unfolding edge_of
lesser_edge m n l = omega (arith, l)

lesser_half : (g h : HalfEdge) → g.edge < h.edge → code g < code h
lesser_half g h l = lesser_edge (code g) (code h) (omega (arith, l, edge_of-code g, edge_of-code h))

module _ (M : Model) (above : List ℕ) (s : ℕ) where
  -- a section edge has one half below
  one_half : (m n : ℕ) → IsBelowHalf M above s m → IsBelowHalf M above s n → edge_of m ≡ edge_of n → m ≡ n
  one_half m n v w e = grind (arith, same_edge, true≢false)

  -- below halves whose edges don't fall rise
  rises : (hs : List HalfEdge) → IsNonDecreasingBy (λ h. h.edge) hs → IsApart (map code hs) → ((m : ℕ) → IsIn m (map code hs) → IsBelowHalf M above s m) → strictly_rises (map code hs) ≡ true
  rises [] up apart are = refl
  rises (g ∷ []) up apart are = refl
  rises (g ∷ h ∷ hs) up apart are = ap (λ b. b && strictly_rises (map code (h ∷ hs))) (lt-ltb (code g) (code h) first)
      ∙ rises (h ∷ hs) (λ i j d l m. up (suc i) (suc j) d (omega (arith, l)) (omega (arith, m))) (λ z. omega (arith, apart z)) (λ m i. are m (omega (arith, i))) where
        same : g.edge ≡ h.edge → ⊥
        same e =
            let o = one_half (code g) (code h) (are (code g) (omega (arith, tick_same (code g)))) (are (code h) (omega (arith, tick_same (code h)))) (edge_of-code g ∙ e ∙ sym (edge_of-code h)) in
            omega (arith, apart (code g), tick_same (code g), ap (tick (code g)) o)

        first : code g < code h
        first = elim (less_or_same g.edge h.edge (up 0 1 g (omega arith) (omega arith))) [ inl l ↦ lesser_half g h l | inr e ↦ absurd (same e) ]

  -- the halves of the section edges, sorted by edges, are the below halves of the solid
  pub sorted_met : Sound M → (found hs : List HalfEdge) → AreSectionHalves M above s (map code found) → IsPermutation found hs → IsNonDecreasingBy (λ h. h.edge) hs → map code hs ≡ below_halves M above s
  sorted_met sound found hs met moved up =
      let ms = map code hs in let bs = below_halves M above s in
      let same : SameItems (map code found) ms = SameItems-from_permutation (map code found) ms (IsPermutation-map code found hs moved) in
      let apart : IsApart ms = λ x. omega (arith, met.apart x, same x) in
      let are : (m : ℕ) → IsIn m ms → IsBelowHalf M above s m = λ m i. met.halves m (omega (arith, i, same m)) in
      let in_halves : (m : ℕ) → IsIn m ms → IsIn m bs = λ m i. are_halves M above s sound m (are m i) in
      let in_met : (m : ℕ) → IsIn m bs → IsIn m ms = λ m i. omega (arith, same m, met.all m (halves_are M above s sound m i)) in
      let w = within ms bs (rises hs up apart are) (halves_rise M above s sound) (λ m l. listed-from_in m bs (in_halves m (IsIn-from_listed m ms l))) in
      w.1 (equally_many ms bs apart (halves_apart M above s sound) in_halves in_met)
