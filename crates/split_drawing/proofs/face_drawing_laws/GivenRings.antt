-- Rings of a face: whether they stop its drawing, and rings given one after the other.
use Rattle.split_drawing.proofs.Prelude.{◌≡◌, ℕ, ◌≤◌, ◌<◌, true, false, ◌&&◌, List, [], ◌∷◌, length, slice_index_or, None, not, nat_lt, sym, ap, subst, arith, Model, rings_of, first_false, has_rings, is_empty, effect, RingIn, and_false, AreAccepted, ring_ops, others, parts}
use Rattle.std.proofs.lemmas.Bool.Decides.{nat_tests}

-- with more than one pair a face that has a ring can't be drawn
module _ (M : Model) (f n : ℕ) where
  both_hold : (m : ℕ) (ls : List ℕ) → 1 < n → m ≡ length ls → 0 < m → nat_lt 1 n && not (is_empty ls) ≡ true
  both_hold m [] a e b = absurd (omega arith)
  both_hold m (l ∷ ls) a e b = let t : nat_lt 1 n ≡ true = grind (arith, nat_tests) in ap (λ b. b && true) t

  none_held : (m : ℕ) (ls : List ℕ) → m ≡ length ls → m ≤ 0 → nat_lt 1 n && not (is_empty ls) ≡ false
  none_held m [] e b = and_false (nat_lt 1 n)
  none_held m (l ∷ ls) e b = absurd (omega arith)

  pub ring_stops : (m : ℕ) → 1 < n → m ≡ length (rings_of M f) → 0 < m → nat_lt 1 n && has_rings M f ≡ true
  unfolding has_rings
  ring_stops m a e b = both_hold m (rings_of M f) a e b

  pub no_ring : (m : ℕ) → m ≡ length (rings_of M f) → m ≤ 0 → nat_lt 1 n && has_rings M f ≡ false
  unfolding has_rings
  no_ring m e b = none_held m (rings_of M f) e b

  pub few_pairs : n ≤ 1 → nat_lt 1 n && has_rings M f ≡ false
  few_pairs a = let t : nat_lt 1 n ≡ false = grind (arith, nat_tests) in ap (λ b. b && has_rings M f) t

module _ (N : Model) (k : ℕ) (ls : List ℕ) (d : ℕ) (l : 1 ≤ length ls) (accepted : AreAccepted N (ring_ops ls k)) where
  opened : AreAccepted N (ring_ops (slice_index_or ls 0 d ∷ others ls) k)
  opened = subst (λ (xs : List ℕ). AreAccepted N (ring_ops xs k)) (parts ls d l) accepted

  pub ring_goes : first_false N (RingIn (slice_index_or ls 0 d) k) ≡ None
  ring_goes = opened.0

  -- once the first is given, the others can be given
  module _ (K : Model) (is : K ≡ effect N (RingIn (slice_index_or ls 0 d) k)) where
    pub rings_go : AreAccepted K (ring_ops (others ls) k)
    rings_go = subst (λ X. AreAccepted X (ring_ops (others ls) k)) (sym is) opened.1

-- the first is given, and then the others
pub ring_and_others : (ls : List ℕ) (k d : ℕ) → 1 ≤ length ls → RingIn (slice_index_or ls 0 d) k ∷ ring_ops (others ls) k ≡ ring_ops ls k
ring_and_others ls k d l = ap (λ (xs : List ℕ). ring_ops xs k) (sym (parts ls d l))
