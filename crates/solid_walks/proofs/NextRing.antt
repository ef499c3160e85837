-- The walk over the rings of a face, from each to the next.
use Rattle.solid_walks.proofs.Prelude.{◌≡◌, ℕ, ◌≤◌, ◌<◌, Bool, true, false, [], ◌∷◌, ◌++◌, Some, None, sym, ap, ◌∙◌, true≢false, inl, inr, Model, outer, rings_of, Sound, at_most_or_above, up_to_all, up_to_next, IsNextRing, loops_of, loops_to, listed_ring, ring_listed, rings_rise}

-- what passes a test that no less number passes is not less
pub not_less : {b : Bool} (m n : ℕ) → b ≡ true → (n < m → b ≡ false) → m ≤ n
not_less m n e none = elim (at_most_or_above m n) [ inl l ↦ l | inr l ↦ absurd (true≢false (sym e ∙ none l)) ]

module _ (M : Model) (sound : Sound M) (f : ℕ) where
  pub loops_more : (last ring : ℕ) → IsNextRing M f last (Some ring) → loops_to M f ring ≡ loops_to M f last ++ ring ∷ []
  loops_more last ring next = ap (λ ls. outer M f ∷ ls) (up_to_next last ring (rings_of M f) (rings_rise M sound f) (ring_listed M sound f ring next.1) next.0 (λ k i l. not_less ring k (listed_ring M sound f k i) (next.2 k l)))

  pub loops_all : (last : ℕ) → IsNextRing M f last None → loops_to M f last ≡ loops_of M f
  unfolding loops_of
  loops_all last none = ap (λ ls. outer M f ∷ ls) (up_to_all last (rings_of M f) (λ k i. not_less k last (listed_ring M sound f k i) (none k)))
