-- The cut places of the faces that straddle, in pairs, once the edges that cross the plane are cut.
use Rattle.split_drawing.proofs.Prelude.{◌≡◌, ℕ, ◌+◌, Bool, true, false, cond, List, [], ◌∷◌, ◌++◌, length, map, refl, sym, ap, ◌∙◌, arith, length-append, take_at, drop_at, length-map, map-append, Plane, IsIn, Model, Sound, HasHalf, tick_same, loops_of, boundary, is_place, places, goes_up, sorted, in_pairs, sorted_pairs, up_first, place_pairs, FacePairs, drawn_pairs, Kept, of_picked, how_many_pairs, paired, paired_face, PairsThere, pair_started, pairs_started}
use Rattle.shapes.proofs.Common.{items_there, count-sorted}
use Rattle.shapes.specs.Common.{all_pairs}
use Rattle.split_checks.specs.Cuts as split_checks

module _ (M N : Model) (p : Plane) where
  -- what starts at the pairs of a face's cut places are the pairs between which edges are drawn
  pairs_are : (f : ℕ) → pairs_started N p (place_pairs M p f) ≡ drawn_pairs M N p f
  unfolding drawn_pairs
  pairs_are f = refl

  -- each face takes what starts at its own
  pub started_are : (fs : List ℕ) → paired (map (paired_face M p) fs) (pairs_started N p (split_checks.all_pairs M p fs)) ≡ all_pairs M N p fs
  started_are [] = refl
  started_are (f ∷ fs) =
      let n = length (place_pairs M p f) in let mine = pairs_started N p (place_pairs M p f) in let rest = pairs_started N p (split_checks.all_pairs M p fs) in
      let both : pairs_started N p (split_checks.all_pairs M p (f ∷ fs)) ≡ mine ++ rest = map-append (pair_started N p) (place_pairs M p f) (split_checks.all_pairs M p fs) in
      let many : length mine ≡ n = length-map (place_pairs M p f) (pair_started N p) in
      ap (λ (qs : List (ℕ × ℕ)). paired (map (paired_face M p) (f ∷ fs)) qs) both
      ∙ (λ i. record { face = f; pairs = (take_at mine rest n many ∙ pairs_are f) i } ∷ paired (map (paired_face M p) fs) (drop_at mine rest n many i))
      ∙ ap (λ (gs : List FacePairs). record { face = f; pairs = drawn_pairs M N p f } ∷ gs) (started_are fs)

  either_there : (b : Bool) (h k : ℕ) (qs : List (ℕ × ℕ)) → HasHalf N h → HasHalf N k → PairsThere N qs → PairsThere N (cond b (h, k) (k, h) ∷ qs)
  either_there true h k qs a c r = (a, c, r)
  either_there false h k qs a c r = (c, a, r)

  paired_there : (hs : List ℕ) → ((h : ℕ) → IsIn h hs → HasHalf N h) → PairsThere N (map (up_first M p) (in_pairs hs))
  paired_there [] each = tt
  paired_there (h ∷ []) each = tt
  paired_there (h ∷ k ∷ ks) each = either_there (goes_up M p h) h k (map (up_first M p) (in_pairs ks))
      (each h (omega (arith, tick_same h))) (each k (omega (arith, tick_same k))) (paired_there ks (λ x i. each x (omega (arith, i))))

  module _ (sound : Sound M) (kept : Kept M N) (f : ℕ) where
    place_there : (h : ℕ) → IsIn h (places M p f) → HasHalf N h
    unfolding places boundary
    place_there h i = kept.halves h (items_there M sound (loops_of M f) h (of_picked (is_place M p) h (boundary M f) i).0)

    pairs_there : PairsThere N (place_pairs M p f)
    unfolding place_pairs sorted_pairs
    pairs_there = paired_there (sorted M p (places M p f)) (λ h i. place_there h (omega (arith, i, count-sorted M p h (places M p f))))

  both_there : (qs rs : List (ℕ × ℕ)) → PairsThere N qs → PairsThere N rs → PairsThere N (qs ++ rs)
  both_there [] rs a c = c
  both_there (q ∷ qs) rs a c = (a.0, a.1, both_there qs rs a.2 c)

  pub all_there : Sound M → Kept M N → (fs : List ℕ) → PairsThere N (split_checks.all_pairs M p fs)
  all_there sound kept [] = tt
  all_there sound kept (f ∷ fs) = both_there (place_pairs M p f) (split_checks.all_pairs M p fs) (pairs_there sound kept f) (all_there sound kept fs)

  -- as many as the faces tell
  pub many_pairs : (fs : List ℕ) → how_many_pairs (map (paired_face M p) fs) ≡ length (split_checks.all_pairs M p fs)
  many_pairs [] = refl
  many_pairs (f ∷ fs) = ap (λ n. length (place_pairs M p f) + n) (many_pairs fs) ∙ sym (length-append (place_pairs M p f) (split_checks.all_pairs M p fs))
