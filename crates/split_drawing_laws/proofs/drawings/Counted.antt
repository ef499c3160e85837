-- What is asked of a drawing: fresh numbers, how many pairs there are, and that no face is drawn twice.
use Rattle.split_drawing_laws.proofs.Prelude.{◌≡◌, ℕ, ◌+◌, ◌/◌, nat_eq, List, [], ◌∷◌, length, refl, ap, arith, map, length-map, Plane, IsIn, IsApart, Model, faces_of, count-filter, tick_same, all_where-rises, counted_once, none_above, length-sorted, length-in_pairs, AreFree, FacePairs, taken_in, straddles, straddling_faces, places, sorted_pairs, place_pairs, pair_count, drawn_pairs, all_pairs, AllOf, pairs_in}

-- above the greatest numbers in use all are free
pub fresh_taken : (M : Model) → AreFree M (taken_in M)
unfolding taken_in
fresh_taken M = record { faces = none_above M.faces; loops = none_above M.loops; edges = none_above M.edges; vertices = none_above M.vertices }

-- no face straddles twice
pub straddling_apart : (M : Model) (p : Plane) (s : ℕ) → IsApart (straddling_faces M p s)
straddling_apart M p s x = omega (arith, count-filter (straddles M p) x (faces_of M s), counted_once x (faces_of M s) (all_where-rises (λ _ row. nat_eq row.solid s) M.faces))

pairs_of : (M N : Model) (p : Plane) (f : ℕ) → length (drawn_pairs M N p f) ≡ length (places M p f) / 2
unfolding drawn_pairs place_pairs sorted_pairs
pairs_of M N p f = grind (arith, length-map, length-in_pairs, length-sorted)

-- what holds of the pairs of each of some faces
pub of_all_pairs : (P : FacePairs → Type 0) (M N : Model) (p : Plane) (fs : List ℕ) → ((f : ℕ) → IsIn f fs → P (record { face = f; pairs = drawn_pairs M N p f })) → AllOf P (all_pairs M N p fs)
of_all_pairs P M N p [] each = tt
of_all_pairs P M N p (f ∷ fs) each = (each f (omega (arith, tick_same f)), of_all_pairs P M N p fs (λ g i. each g (omega (arith, i))))

-- faces stay when they get their pairs
pub faces_are : (M N : Model) (p : Plane) (fs : List ℕ) → map (λ f. f.face) (all_pairs M N p fs) ≡ fs
faces_are M N p [] = refl
faces_are M N p (f ∷ fs) = ap (λ gs. f ∷ gs) (faces_are M N p fs)

-- as many pairs are drawn as a split counts
pub pairs_counted : (M N : Model) (p : Plane) (fs : List ℕ) → pairs_in (all_pairs M N p fs) ≡ pair_count M p fs
pairs_counted M N p [] = refl
pairs_counted M N p (f ∷ fs) = λ i. pairs_of M N p f i + pairs_counted M N p fs i
