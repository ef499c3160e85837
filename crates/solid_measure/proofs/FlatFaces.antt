-- Whether all corners of a face lie on a plane: loop by loop, half-edge by half-edge.
use Rattle.solid_measure.proofs.Prelude.{◌≡◌, ℕ, Bool, true, false, ◌&&◌, List, [], ◌∷◌, ◌++◌, map, not, length, arith, refl, sym, ap, ◌∙◌, true≢false, list_all, Plane, is_on, same_point, direction, origin, IsRotation, Content, HalfEdge, Model, LoopContent, lone, cycle, items_of, content, tail, point_of, outer, rings_of, IsIn, Tells, vertices_on, vertices_in, loops_of, corners, plane_of, is_flat}

module _ (P : ℕ → Bool) where
  all_joined : (xs ys : List ℕ) → list_all P (xs ++ ys) ≡ (list_all P xs && list_all P ys)
  all_joined [] ys = refl
  all_joined (x ∷ xs) ys = grind (arith, all_joined xs ys)

  -- it doesn't depend on where a ring is begun
  pub all_turned : (xs ys : List ℕ) → IsRotation xs ys → list_all P xs ≡ list_all P ys
  all_turned xs ys r = ap (list_all P) r.here ∙ grind (arith, all_joined r.front r.back, all_joined r.back r.front) ∙ sym (ap (list_all P) r.there)

  pub all_mapped : (f : ℕ → ℕ) (xs : List ℕ) → list_all (λ x. P (f x)) xs ≡ list_all P (map f xs)
  all_mapped f [] = refl
  all_mapped f (x ∷ xs) = ap (λ b. P (f x) && b) (all_mapped f xs)

  all_vertices : (M : Model) (ls : List ℕ) → list_all (λ l. list_all P (vertices_on M (content M l))) ls ≡ list_all P (vertices_in M ls)
  all_vertices M [] = refl
  all_vertices M (l ∷ ls) = ap (λ b. list_all P (vertices_on M (content M l)) && b) (all_vertices M ls) ∙ sym (all_joined (vertices_on M (content M l)) (vertices_in M ls))

  pub all_corners : (M : Model) (f : ℕ) → list_all (λ l. list_all P (vertices_on M (content M l))) (loops_of M f) ≡ list_all P (corners M f)
  unfolding corners
  all_corners M f = all_vertices M (loops_of M f)

  -- the outer loop and the rings apart
  pub all_parts : (M : Model) (f : ℕ) → (list_all P (vertices_on M (content M (outer M f))) && list_all (λ l. list_all P (vertices_on M (content M l))) (rings_of M f)) ≡ list_all P (corners M f)
  unfolding loops_of
  all_parts M f = all_corners M f

-- a ring is one of the loops
pub ring_in : (M : Model) (f l : ℕ) → IsIn l (rings_of M f) → IsIn l (loops_of M f)
unfolding loops_of
ring_in M f l i = omega (arith, i)

-- one test before another
pub first_fails : (a b : Bool) → {r : Bool} → r ≡ a → r ≡ false → false ≡ (a && b)
first_fails true b e n = absurd (true≢false (sym e ∙ n))
first_fails false b e n = refl

pub first_passes : (a b : Bool) → {r : Bool} → r ≡ a → r ≡ true → b ≡ (a && b)
first_passes true b e n = refl
first_passes false b e n = absurd (true≢false (sym n ∙ e))

-- where there is no ring, each of them passes
pub none_fails : (Q : ℕ → Bool) (ls : List ℕ) → length ls ≡ 0 → list_all Q ls ≡ true
none_fails Q [] e = refl
none_fails Q (l ∷ ls) e = absurd (omega (arith, e))

-- the vertices on a loop that isn't lone
pub ring_vertices : (M : Model) (s : Plane) (c : LoopContent) (h : HalfEdge) → Tells c (Content.Ring h) → list_all (λ v. is_on s (point_of M v)) (map (tail M) (items_of c)) ≡ list_all (λ v. is_on s (point_of M v)) (vertices_on M c)
ring_vertices M s (lone v) h t = absurd t
ring_vertices M s (cycle hs) h t = refl

-- whether a face is flat, from its two tests
pub flat_as : (M : Model) (f : ℕ) (s : Plane) (b : Bool) → s ≡ plane_of M f → b ≡ (not (same_point (direction s) origin) && list_all (λ v. is_on s (point_of M v)) (corners M f)) → b ≡ is_flat M f
unfolding is_flat
flat_as M f s b e is = is ∙ ap (λ p. not (same_point (direction p) origin) && list_all (λ v. is_on p (point_of M v)) (corners M f)) e

pub flat_then : (a b : Bool) → a ≡ true → b ≡ (a && b)
flat_then a b e = sym (ap (λ c. c && b) e)

pub flat_else : (a b : Bool) → a ≡ false → a ≡ (a && b)
flat_else true b e = absurd (true≢false e)
flat_else false b e = refl
