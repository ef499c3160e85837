-- How many pairs the cut places of faces make.
use Rattle.split_checks.proofs.Prelude.{◌≡◌, ℕ, ◌+◌, ◌/◌, List, [], ◌∷◌, map, length, refl, sym, ap, ◌∙◌, length-append, length-map, Plane, Model, places, place_pairs, sorted, sorted_pairs, up_first, pair_count, length-sorted, length-in_pairs, Pair}
use Rattle.split_checks.specs.Cuts.{all_pairs, codes}

module _ (M : Model) (p : Plane) where
  pub pairs_of_places : (f : ℕ) → length (place_pairs M p f) ≡ length (places M p f) / 2
  unfolding place_pairs sorted_pairs
  pairs_of_places f = length-map (sorted_pairs M p f) (up_first M p) ∙ length-in_pairs (sorted M p (places M p f)) ∙ ap (λ n. n / 2) (length-sorted M p (places M p f))

  all_counted : (fs : List ℕ) → length (all_pairs M p fs) ≡ pair_count M p fs
  all_counted [] = refl
  all_counted (f ∷ fs) = length-append (place_pairs M p f) (all_pairs M p fs) ∙ (λ i. pairs_of_places f i + all_counted fs i)

  -- as many as the code has
  pub many_pairs : (fs : List ℕ) (pairs : List Pair) → map codes pairs ≡ all_pairs M p fs → length pairs ≡ pair_count M p fs
  many_pairs fs pairs is = sym (length-map pairs codes) ∙ ap (λ (qs : List (ℕ × ℕ)). length qs) is ∙ all_counted fs
