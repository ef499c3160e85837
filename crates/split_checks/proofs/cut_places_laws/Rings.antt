-- A face walked over its outer loop, and then over its rings.
use Rattle.split_checks.proofs.Prelude.{◌≡◌, ℕ, false, ◌||◌, List, [], ◌++◌, Some, None, sym, ap, ◌∙◌, list_any-append, Plane, Sign, Model, content, items_of, outer, point_of, rings_of, Sound, IsNextRing, boundary, corners, items_in, loops_of, vertices_in, vertices_on, above, next_ring, no_ring, rings_from_zero, lies, some_lie}

module _ (M : Model) (f : ℕ) where
  -- the half-edges: those of the outer loop, and then those of the rings
  pub outer_items : Sound M → items_of (content M (outer M f)) ++ items_in M (above 0 (rings_of M f)) ≡ boundary M f
  unfolding boundary loops_of
  outer_items sound = ap (λ ls. items_of (content M (outer M f)) ++ items_in M ls) (rings_from_zero M f sound)

  pub ring_items : (n l : ℕ) → IsNextRing M f n (Some l) → items_in M (above n (rings_of M f)) ≡ items_of (content M l) ++ items_in M (above l (rings_of M f))
  ring_items n l next = ap (items_in M) (next_ring M f n l next)

  pub no_items : (n : ℕ) → IsNextRing M f n None → items_in M (above n (rings_of M f)) ≡ []
  no_items n none = ap (items_in M) (no_ring M f n none)

  -- a corner on that side of the plane: on the outer loop, or else on the rings
  module _ (side : Sign) (p : Plane) where
    either : (l : ℕ) (vs : List ℕ) → some_lie side M p (vertices_on M (content M l) ++ vs) ≡ some_lie side M p (vertices_on M (content M l)) || some_lie side M p vs
    either l vs = list_any-append (λ v. lies side p (point_of M v)) (vertices_on M (content M l)) vs

    pub outer_lies : Sound M → some_lie side M p (corners M f) ≡ some_lie side M p (vertices_on M (content M (outer M f))) || some_lie side M p (vertices_in M (above 0 (rings_of M f)))
    unfolding corners loops_of
    outer_lies sound = ap (λ ls. some_lie side M p (vertices_on M (content M (outer M f)) ++ vertices_in M ls)) (sym (rings_from_zero M f sound)) ∙ either (outer M f) (vertices_in M (above 0 (rings_of M f)))

    pub ring_lies : (n l : ℕ) → IsNextRing M f n (Some l)
        → some_lie side M p (vertices_in M (above n (rings_of M f))) ≡ some_lie side M p (vertices_on M (content M l)) || some_lie side M p (vertices_in M (above l (rings_of M f)))
    ring_lies n l next = ap (λ ls. some_lie side M p (vertices_in M ls)) (next_ring M f n l next) ∙ either l (vertices_in M (above l (rings_of M f)))

    pub none_lies : (n : ℕ) → IsNextRing M f n None → some_lie side M p (vertices_in M (above n (rings_of M f))) ≡ false
    none_lies n none = ap (λ ls. some_lie side M p (vertices_in M ls)) (no_ring M f n none)
