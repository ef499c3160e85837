-- Tallies of corners, one after the other.
use Rattle.std.specs.Option.{option_or}
use Rattle.sweeps.proofs.Prelude.{◌≡◌, ℕ, Bool, List, [], ◌∷◌, ◌++◌, append_assoc, None, refl, sym, ap, subst, ◌∙◌, arith, ◌+◌, length, min, map, fold, append-nil, length-append, Point, IsIn, HalfEdge, Content, code, Model, LoopContent, lone, cycle, items_of, content, tail, cycle_of, Sound, HasHalf, StandsIn, in-holds, vertices_on, first_such, is_far, joined, tally}
use Rattle.euler_conditions.specs.Store.{Tells}
use Rattle.euler_conditions.proofs.Borders.{ring_has}

-- ---- a search over two lists

such_joined : (p : ℕ → Bool) (xs ys : List ℕ) → first_such p (xs ++ ys) ≡ option_or (first_such p xs) (first_such p ys)
such_joined p [] ys = refl
such_joined p (x ∷ xs) ys = grind (arith, such_joined p xs ys)

module _ (M : Model) (d : Point) where
  -- the tallies of two lists put together
  tally_joined : (vs ws : List ℕ) → joined (tally M d vs) (tally M d ws) ≡ tally M d (vs ++ ws)
  unfolding joined tally
  tally_joined vs ws =
      let count : min (min (length vs) 1000001 + min (length ws) 1000001) 1000001 ≡ min (length (vs ++ ws)) 1000001 = omega (arith, length-append vs ws) in
      λ i. record { count = count i; far = sym (such_joined (is_far M d) vs ws) i }

  pub tally_none : record { count = 0; far = None } ≡ tally M d []
  unfolding tally
  tally_none = refl

  -- the tally of many corners, list by list
  module _ (of : ℕ → List ℕ) (all : List ℕ → List ℕ) (none : all [] ≡ []) (more : (n : ℕ) (ns : List ℕ) → all (n ∷ ns) ≡ of n ++ all ns) where
    pub fold_tallies : (vs ns : List ℕ) → fold (λ t n. joined t (tally M d (of n))) (tally M d vs) ns ≡ tally M d (vs ++ all ns)
    fold_tallies vs [] = ap (tally M d) (sym (append-nil vs) ∙ ap (λ ws. vs ++ ws) (sym none))
    fold_tallies vs (n ∷ ns) =
        ap (λ t. fold (λ t n. joined t (tally M d (of n))) t ns) (tally_joined vs (of n)) ∙ fold_tallies (vs ++ of n) ns
        ∙ ap (tally M d) (append_assoc vs (of n) (all ns) ∙ ap (λ ws. vs ++ ws) (sym (more n ns)))

  module _ (sound : Sound M) (l : ℕ) (h : HalfEdge) (c : Content) (is : c ≡ Content.Ring h) (tells : Tells (content M l) c) where
    told : IsIn (code h) (items_of (content M l))
    told = ring_has (content M l) h (subst (Tells (content M l)) is tells)

    stands : StandsIn M (code h) l
    stands = in-holds (code h) (content M l) told

    pub half_told : HasHalf M (code h)
    half_told = sound.only_edges (code h) l stands

    pub ring_told : tally M d (map (tail M) (cycle_of M (code h))) ≡ tally M d (vertices_on M (content M l))
    ring_told = ap (tally M d) (ap (λ k. map (tail M) (items_of (content M k))) (sound.one_loop (code h) l stands) ∙ cycle_vertices (content M l) (subst (Tells (content M l)) is tells)) where
      cycle_vertices : (k : LoopContent) → Tells k (Content.Ring h) → map (tail M) (items_of k) ≡ vertices_on M k
      cycle_vertices (lone v) t = absurd t
      cycle_vertices (cycle hs) t = refl
