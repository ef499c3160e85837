-- What cut places say once they are in order.
use Rattle.split_checks.proofs.Prelude.{◌≡◌, ℕ, Bool, true, false, cond, not, ◌||◌, List, [], ◌∷◌, map, refl, sym, ap, arith, list_all, Plane, Model, same_point, lex_less, differ, place_point, goes_up, places, some_meet, sorted, in_pairs, sorted_pairs, is_up_and_down, up_first, is_crossed, place_pairs, are_crossed}

module _ (M : Model) (p : Plane) where
  pub crossed_by : (hs : List ℕ) → some_meet M p hs ≡ true → true ≡ are_crossed M p hs
  crossed_by hs met = sym (ap (λ b. b || not (list_all (is_up_and_down M p) (in_pairs (sorted M p hs)))) met)

  pub ordered : (hs ks : List ℕ) → some_meet M p hs ≡ false → ks ≡ sorted M p hs → not (list_all (is_up_and_down M p) (in_pairs ks)) ≡ are_crossed M p hs
  ordered hs ks apart placed = grind arith

  -- the places of a face
  module _ (f : ℕ) (hs : List ℕ) (is : hs ≡ places M p f) where
    pub face_crossed : are_crossed M p hs ≡ is_crossed M p f
    unfolding is_crossed sorted_pairs
    face_crossed = ap (are_crossed M p) is

    pub face_paired : map (up_first M p) (in_pairs (sorted M p hs)) ≡ place_pairs M p f
    unfolding place_pairs sorted_pairs
    face_paired = ap (λ ks. map (up_first M p) (in_pairs (sorted M p ks))) is

-- two cut places are one pair, whichever comes first
module _ (M : Model) (p : Plane) (h k : ℕ) where
  two_differ : list_all (is_up_and_down M p) (in_pairs (sorted M p (h ∷ k ∷ []))) ≡ is_up_and_down M p (h, k)
  two_differ = grind arith

  -- and the one that is up comes first in it
  pub two_paired : is_up_and_down M p (h, k) ≡ true → up_first M p (h, k) ∷ [] ≡ map (up_first M p) (in_pairs (sorted M p (h ∷ k ∷ [])))
  two_paired one = elim (lex_less (place_point M p k) (place_point M p h)) as (λ b. up_first M p (h, k) ∷ [] ≡ map (up_first M p) (in_pairs (cond b (k ∷ h ∷ []) (h ∷ k ∷ [])))) [
    | true ↦ ap (λ (q : ℕ × ℕ). q ∷ []) (turned (goes_up M p h) (goes_up M p k) one)
    | false ↦ refl
  ] where
    turned : (u v : Bool) → differ u v ≡ true → ◌≡◌ {A = ℕ × ℕ} (cond u (h, k) (k, h)) (cond v (k, h) (h, k))
    turned u v one = grind arith

  -- where there are no others
  pub two_crossed : (hs : List ℕ) → h ∷ k ∷ [] ≡ hs → same_point (place_point M p h) (place_point M p k) || not (is_up_and_down M p (h, k)) ≡ are_crossed M p hs
  two_crossed hs is = grind (arith, two_differ)
