-- A rectangle with its edges along x and y, u and v long.
use Rattle.lattice.proofs.Prelude.{refl, arith, ◌∙◌, ap, ◌≡◌, ℕ, ℤ, pos, ◌+ℤ◌, ◌-ℤ◌, ◌*ℤ◌, neg_ℤ, Point, origin, moved, dot, cross}
use Rattle.lattice.proofs.Integers.{dif, dif-parts, difs, same_dif, number}
use Rattle.lattice.proofs.Vectors.{vec, same_vector, add_none}

-- the area of a ring of four points
abbrev pub ring_area : Point → Point → Point → Point → Point
ring_area a b c d = moved (cross a b) (moved (cross b c) (moved (cross c d) (moved (cross d a) origin)))

flat_dif : (y z v y' z' v' : ℕ) →
    (dif y y' *ℤ dif z z' -ℤ dif z z' *ℤ dif y y') +ℤ ((dif y y' *ℤ dif z z' -ℤ dif z z' *ℤ (dif y y' +ℤ dif v v')) +ℤ (((dif y y' +ℤ dif v v') *ℤ dif z z' -ℤ dif z z' *ℤ (dif y y' +ℤ dif v v')) +ℤ (((dif y y' +ℤ dif v v') *ℤ dif z z' -ℤ dif z z' *ℤ dif y y') +ℤ dif 0 0))) ≡ dif 0 0
flat_dif y z v y' z' v' = simp difs (same_dif _ _ _ _ (omega arith))

flat_x : (y z v : ℤ) → (y *ℤ z -ℤ z *ℤ y) +ℤ ((y *ℤ z -ℤ z *ℤ (y +ℤ v)) +ℤ (((y +ℤ v) *ℤ z -ℤ z *ℤ (y +ℤ v)) +ℤ (((y +ℤ v) *ℤ z -ℤ z *ℤ y) +ℤ pos 0))) ≡ pos 0
flat_x y z v = rw (dif-parts y, dif-parts z, dif-parts v, number 0) (flat_dif _ _ _ _ _ _)

flat_other : (x z u x' z' u' : ℕ) →
    (dif z z' *ℤ (dif x x' +ℤ dif u u') -ℤ dif x x' *ℤ dif z z') +ℤ ((dif z z' *ℤ (dif x x' +ℤ dif u u') -ℤ (dif x x' +ℤ dif u u') *ℤ dif z z') +ℤ ((dif z z' *ℤ dif x x' -ℤ (dif x x' +ℤ dif u u') *ℤ dif z z') +ℤ ((dif z z' *ℤ dif x x' -ℤ dif x x' *ℤ dif z z') +ℤ dif 0 0))) ≡ dif 0 0
flat_other x z u x' z' u' = simp difs (same_dif _ _ _ _ (omega arith))

flat_y : (x z u : ℤ) → (z *ℤ (x +ℤ u) -ℤ x *ℤ z) +ℤ ((z *ℤ (x +ℤ u) -ℤ (x +ℤ u) *ℤ z) +ℤ ((z *ℤ x -ℤ (x +ℤ u) *ℤ z) +ℤ ((z *ℤ x -ℤ x *ℤ z) +ℤ pos 0))) ≡ pos 0
flat_y x z u = rw (dif-parts x, dif-parts z, dif-parts u, number 0) (flat_other _ _ _ _ _ _)

wide_dif : (x y u v x' y' u' v' : ℕ) →
    (dif x x' *ℤ dif y y' -ℤ dif y y' *ℤ (dif x x' +ℤ dif u u')) +ℤ (((dif x x' +ℤ dif u u') *ℤ (dif y y' +ℤ dif v v') -ℤ dif y y' *ℤ (dif x x' +ℤ dif u u')) +ℤ (((dif x x' +ℤ dif u u') *ℤ (dif y y' +ℤ dif v v') -ℤ (dif y y' +ℤ dif v v') *ℤ dif x x') +ℤ ((dif x x' *ℤ dif y y' -ℤ (dif y y' +ℤ dif v v') *ℤ dif x x') +ℤ dif 0 0)))
    ≡ dif 2 0 *ℤ (dif u u' *ℤ dif v v')
wide_dif x y u v x' y' u' v' = simp difs (same_dif _ _ _ _ (omega arith))

wide_z : (x y u v : ℤ) →
    (x *ℤ y -ℤ y *ℤ (x +ℤ u)) +ℤ (((x +ℤ u) *ℤ (y +ℤ v) -ℤ y *ℤ (x +ℤ u)) +ℤ (((x +ℤ u) *ℤ (y +ℤ v) -ℤ (y +ℤ v) *ℤ x) +ℤ ((x *ℤ y -ℤ (y +ℤ v) *ℤ x) +ℤ pos 0))) ≡ pos 2 *ℤ (u *ℤ v)
wide_z x y u v = rw (dif-parts x, dif-parts y, dif-parts u, dif-parts v, number 0, number 2) (wide_dif _ _ _ _ _ _ _ _)

-- its area points along z
rectangle_area : (x y z u v : ℤ) → ring_area (vec x y z) (vec (x +ℤ u) y z) (vec (x +ℤ u) (y +ℤ v) z) (vec x (y +ℤ v) z) ≡ vec (pos 0) (pos 0) (pos 2 *ℤ (u *ℤ v))
rectangle_area x y z u v = same_vector _ _ (flat_x y z v) (flat_y x z u) (wide_z x y u v)

back_other : (x z u x' z' u' : ℕ) →
    (dif z z' *ℤ dif x x' -ℤ (dif x x' +ℤ dif u u') *ℤ dif z z') +ℤ ((dif z z' *ℤ dif x x' -ℤ dif x x' *ℤ dif z z') +ℤ ((dif z z' *ℤ (dif x x' +ℤ dif u u') -ℤ dif x x' *ℤ dif z z') +ℤ ((dif z z' *ℤ (dif x x' +ℤ dif u u') -ℤ (dif x x' +ℤ dif u u') *ℤ dif z z') +ℤ dif 0 0))) ≡ dif 0 0
back_other x z u x' z' u' = simp difs (same_dif _ _ _ _ (omega arith))

back_y : (x z u : ℤ) → (z *ℤ x -ℤ (x +ℤ u) *ℤ z) +ℤ ((z *ℤ x -ℤ x *ℤ z) +ℤ ((z *ℤ (x +ℤ u) -ℤ x *ℤ z) +ℤ ((z *ℤ (x +ℤ u) -ℤ (x +ℤ u) *ℤ z) +ℤ pos 0))) ≡ pos 0
back_y x z u = rw (dif-parts x, dif-parts z, dif-parts u, number 0) (back_other _ _ _ _ _ _)

back_dif : (x y u v x' y' u' v' : ℕ) →
    ((dif x x' +ℤ dif u u') *ℤ dif y y' -ℤ dif y y' *ℤ dif x x') +ℤ ((dif x x' *ℤ (dif y y' +ℤ dif v v') -ℤ dif y y' *ℤ dif x x') +ℤ ((dif x x' *ℤ (dif y y' +ℤ dif v v') -ℤ (dif y y' +ℤ dif v v') *ℤ (dif x x' +ℤ dif u u')) +ℤ (((dif x x' +ℤ dif u u') *ℤ dif y y' -ℤ (dif y y' +ℤ dif v v') *ℤ (dif x x' +ℤ dif u u')) +ℤ dif 0 0)))
    ≡ neg_ℤ (dif 2 0 *ℤ (dif u u' *ℤ dif v v'))
back_dif x y u v x' y' u' v' = simp difs (same_dif _ _ _ _ (omega arith))

back_z : (x y u v : ℤ) →
    ((x +ℤ u) *ℤ y -ℤ y *ℤ x) +ℤ ((x *ℤ (y +ℤ v) -ℤ y *ℤ x) +ℤ ((x *ℤ (y +ℤ v) -ℤ (y +ℤ v) *ℤ (x +ℤ u)) +ℤ (((x +ℤ u) *ℤ y -ℤ (y +ℤ v) *ℤ (x +ℤ u)) +ℤ pos 0))) ≡ neg_ℤ (pos 2 *ℤ (u *ℤ v))
back_z x y u v = rw (dif-parts x, dif-parts y, dif-parts u, dif-parts v, number 0, number 2) (back_dif _ _ _ _ _ _ _ _)

-- and the other way round it points back
back_area : (x y z u v : ℤ) → ring_area (vec (x +ℤ u) y z) (vec x y z) (vec x (y +ℤ v) z) (vec (x +ℤ u) (y +ℤ v) z) ≡ vec (pos 0) (pos 0) (neg_ℤ (pos 2 *ℤ (u *ℤ v)))
back_area x y z u v = same_vector _ _ (flat_x y z v) (back_y x z u) (back_z x y u v)

level_dif : (x y z u a x' y' z' u' a' : ℕ) →
    (dif x x' *ℤ dif 0 0 +ℤ dif y y' *ℤ dif 0 0 +ℤ dif z z' *ℤ dif a a') +ℤ (((dif x x' +ℤ dif u u') *ℤ dif 0 0 +ℤ dif y y' *ℤ dif 0 0 +ℤ dif z z' *ℤ neg_ℤ (dif a a')) +ℤ dif 0 0) ≡ dif 0 0
level_dif x y z u a x' y' z' u' a' = simp difs (same_dif _ _ _ _ (omega arith))

level : (x y z u a : ℤ) → (x *ℤ pos 0 +ℤ y *ℤ pos 0 +ℤ z *ℤ a) +ℤ (((x +ℤ u) *ℤ pos 0 +ℤ y *ℤ pos 0 +ℤ z *ℤ neg_ℤ a) +ℤ pos 0) ≡ pos 0
level x y z u a = rw (dif-parts x, dif-parts y, dif-parts z, dif-parts u, dif-parts a, number 0) (level_dif _ _ _ _ _ _ _ _ _ _)

high_dif : (u v w u' v' w' : ℕ) → dif 3 0 *ℤ (dif 0 0 +ℤ (dif 2 0 *ℤ (dif u u' *ℤ dif v v')) *ℤ dif w w') ≡ dif 6 0 *ℤ dif u u' *ℤ dif v v' *ℤ dif w w'
high_dif u v w u' v' w' = simp difs (same_dif _ _ _ _ (omega arith))

high : (u v w : ℤ) → pos 3 *ℤ (pos 0 +ℤ (pos 2 *ℤ (u *ℤ v)) *ℤ w) ≡ pos 6 *ℤ u *ℤ v *ℤ w
high u v w = rw (dif-parts u, dif-parts v, dif-parts w, number 0, number 2, number 3, number 6) (high_dif _ _ _ _ _ _)

module _ (p : Point) (u v : ℤ) where
  along : moved p (vec u (pos 0) (pos 0)) ≡ vec (p.x +ℤ u) p.y p.z
  along = same_vector _ _ refl (add_none p.y) (add_none p.z)

  across : moved p (vec u v (pos 0)) ≡ vec (p.x +ℤ u) (p.y +ℤ v) p.z
  across = same_vector _ _ refl refl (add_none p.z)

  beside : moved p (vec (pos 0) v (pos 0)) ≡ vec p.x (p.y +ℤ v) p.z
  beside = same_vector _ _ (add_none p.x) refl (add_none p.z)

  -- the rectangle's corners
  abbrev pub second_corner : Point
  second_corner = moved p (vec u (pos 0) (pos 0))

  abbrev pub third_corner : Point
  third_corner = moved p (vec u v (pos 0))

  abbrev pub fourth_corner : Point
  fourth_corner = moved p (vec (pos 0) v (pos 0))

  corners_area : ring_area p second_corner third_corner fourth_corner ≡ vec (pos 0) (pos 0) (pos 2 *ℤ (u *ℤ v))
  corners_area = (λ i. ring_area p (along i) (across i) (beside i)) ∙ rectangle_area p.x p.y p.z u v

  corners_back : ring_area second_corner p fourth_corner third_corner ≡ vec (pos 0) (pos 0) (neg_ℤ (pos 2 *ℤ (u *ℤ v)))
  corners_back = (λ i. ring_area (along i) p (beside i) (across i)) ∙ back_area p.x p.y p.z u v

  -- its two sides, told from two of its corners, have no volume
  pub rectangle_flat : dot p (ring_area p second_corner third_corner fourth_corner) +ℤ (dot second_corner (ring_area second_corner p fourth_corner third_corner) +ℤ pos 0) ≡ pos 0
  rectangle_flat = (λ i. dot p (corners_area i) +ℤ (dot (along i) (corners_back i) +ℤ pos 0)) ∙ level p.x p.y p.z u (pos 2 *ℤ (u *ℤ v))

  -- three times its area along a height
  pub rectangle_raised : (w : ℤ) → pos 3 *ℤ dot (ring_area p second_corner third_corner fourth_corner) (vec (pos 0) (pos 0) w) ≡ pos 6 *ℤ u *ℤ v *ℤ w
  rectangle_raised w = ap (λ a. pos 3 *ℤ dot a (vec (pos 0) (pos 0) w)) corners_area ∙ high u v w
