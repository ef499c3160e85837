-- Faces whose corners lie on one plane: parallelograms, and what was moved.
use Rattle.command_laws.proofs.Prelude.{list_all, ◌≡◌, ◌≢◌, ℕ, ℤ, pos, ◌+ℤ◌, ◌-ℤ◌, ◌*ℤ◌, neg_ℤ, Bool, true, false, not, ◌&&◌, List, [], ◌∷◌, refl, sym, ap, subst, ◌∙◌, arith, int_eq, and_parts, ints, list_all-map, Plane, Point, origin, moved, dot, cross, same_point, is_on, direction, Model, point_of, dif-parts, difs, same_dif, number, same_vector, dot_moved, dot_turned, moved_twice, scaled, towards, corners, normal, anchor, plane_through, plane_of, is_plane_of, is_flat, are_on, same_is, told_anywhere, held, all_moved, area_to, corner_points, plane_round, StandsAsBefore, IsFarFace, PlanarLieFlat, lie_flat, FacesLieFlat, SidesLieFlat, FarFacesLieFlat}
use Rattle.command_laws.proofs.SweptRings.{ringed_face_is_far}

pub faces_lie_flat : FacesLieFlat
unfolding is_flat
faces_lie_flat M f s ps face =
    ap (λ p. is_plane_of M p (corners M f)) face.plane
    ∙ ap (λ b. not (same_point (direction (plane_round ps)) origin) && b) (sym (list_all-map (is_on (plane_round ps)) (point_of M) (corners M f)) ∙ ap (list_all (is_on (plane_round ps))) face.points)

-- ---- a parallelogram

round_part : (ay az uy uz vy vz : ℤ) →
    (ay *ℤ (az +ℤ uz) -ℤ az *ℤ (ay +ℤ uy)) +ℤ (((ay +ℤ uy) *ℤ ((az +ℤ uz) +ℤ vz) -ℤ (az +ℤ uz) *ℤ ((ay +ℤ uy) +ℤ vy))
    +ℤ ((((ay +ℤ uy) +ℤ vy) *ℤ (az +ℤ vz) -ℤ ((az +ℤ uz) +ℤ vz) *ℤ (ay +ℤ vy)) +ℤ (((ay +ℤ vy) *ℤ az -ℤ (az +ℤ vz) *ℤ ay) +ℤ pos 0)))
    ≡ pos 2 *ℤ (uy *ℤ vz -ℤ uz *ℤ vy)
round_part ay az uy uz vy vz =
    rw (dif-parts ay, dif-parts az, dif-parts uy, dif-parts uz, dif-parts vy, dif-parts vz, number 0, number 2) (simp difs (same_dif _ _ _ _ (omega arith)))

along_part : (a b c e f g : ℤ) → a *ℤ (pos 2 *ℤ (b *ℤ g -ℤ c *ℤ f)) +ℤ b *ℤ (pos 2 *ℤ (c *ℤ e -ℤ a *ℤ g)) +ℤ c *ℤ (pos 2 *ℤ (a *ℤ f -ℤ b *ℤ e)) ≡ pos 0
along_part a b c e f g = rw (dif-parts a, dif-parts b, dif-parts c, dif-parts e, dif-parts f, dif-parts g, number 0, number 2) (simp difs (same_dif _ _ _ _ (omega arith)))

along_other_part : (a b c e f g : ℤ) → e *ℤ (pos 2 *ℤ (b *ℤ g -ℤ c *ℤ f)) +ℤ f *ℤ (pos 2 *ℤ (c *ℤ e -ℤ a *ℤ g)) +ℤ g *ℤ (pos 2 *ℤ (a *ℤ f -ℤ b *ℤ e)) ≡ pos 0
along_other_part a b c e f g = rw (dif-parts a, dif-parts b, dif-parts c, dif-parts e, dif-parts f, dif-parts g, number 0, number 2) (simp difs (same_dif _ _ _ _ (omega arith)))

-- points of a plane through a, from a by ways across its direction
level_self : (x : ℤ) → x +ℤ neg_ℤ x ≡ pos 0
level_self x = omega (arith, ints)

level_more : (x y : ℤ) → y ≡ pos 0 → (x +ℤ y) +ℤ neg_ℤ x ≡ pos 0
level_more x y e = omega (arith, ints)

on_at : (n r : Point) → is_on (plane_through n r) r ≡ true
on_at n r = ap (λ h. int_eq h (pos 0)) (level_self (dot n r))

on_by : (n r w : Point) → dot w n ≡ pos 0 → is_on (plane_through n r) (moved r w) ≡ true
on_by n r w e = ap (λ h. int_eq h (pos 0))
    (ap (λ h. h +ℤ neg_ℤ (dot n r)) (dot_turned n (moved r w) ∙ dot_moved r w n ∙ ap (λ h. h +ℤ dot w n) (dot_turned r n)) ∙ level_more (dot n r) (dot w n) e)

no_sum : (x y : ℤ) → x ≡ pos 0 → y ≡ pos 0 → x +ℤ y ≡ pos 0
no_sum x y e f = omega (arith, ints)

half_none : (x : ℤ) → pos 2 *ℤ x ≡ pos 0 → x ≡ pos 0
half_none x e = omega (arith, ints)

-- a vector that isn't 0 is a direction
some_way : (n : Point) → n ≢ origin → not (same_point n origin) ≡ true
some_way n ne = differs_holds (same_point n origin) refl where
  differs_holds : (b : Bool) → same_point n origin ≡ b → not b ≡ true
  differs_holds false e = refl
  differs_holds true e = absurd (ne (same_is n origin e))

module _ (a u v : Point) where
  abbrev pub corners_round : List Point
  corners_round = a ∷ moved a u ∷ moved (moved a u) v ∷ moved a v ∷ []

  abbrev pub across : Point
  across = scaled (pos 2) (cross u v)

  round_is : area_to a corners_round ≡ across
  round_is = same_vector _ _ (round_part a.y a.z u.y u.z v.y v.z) (round_part a.z a.x u.z u.x v.z v.x) (round_part a.x a.y u.x u.y v.x v.y)

  pub plane_is : plane_round corners_round ≡ plane_through across a
  plane_is = ap (λ n. plane_through n a) round_is

  along : dot u across ≡ pos 0
  along = along_part u.x u.y u.z v.x v.y v.z

  along_other : dot v across ≡ pos 0
  along_other = along_other_part u.x u.y u.z v.x v.y v.z

  both_ways : moved (moved a u) v ≡ moved a (moved u v)
  both_ways = moved_twice a u v

  some_direction : cross u v ≢ origin → not (same_point across origin) ≡ true
  some_direction ne = some_way across (λ none. ne (same_vector _ _ (half_none (cross u v).x (ap (λ p. p.x) none)) (half_none (cross u v).y (ap (λ p. p.y) none)) (half_none (cross u v).z (ap (λ p. p.z) none))))

  all_on : list_all (is_on (plane_through across a)) corners_round ≡ true
  all_on = λ i. on_at across a i && (on_by across a u along i
      && ((ap (is_on (plane_through across a)) both_ways ∙ on_by across a (moved u v) (dot_moved u v across ∙ no_sum (dot u across) (dot v across) along along_other)) i && (on_by across a v along_other i && true)))

  pub parallelogram : cross u v ≢ origin → lie_flat corners_round ≡ true
  parallelogram ne = ap (λ p. not (same_point (direction p) origin) && list_all (is_on p) corners_round) plane_is ∙ (λ i. some_direction ne i && all_on i)

-- ---- corners on some plane

on_other : (M : Model) (p q : Plane) → ((r : Point) → is_on p r ≡ true → is_on q r ≡ true) → (vs : List ℕ) → are_on M p vs ≡ true → are_on M q vs ≡ true
on_other M p q over [] on = refl
on_other M p q over (v ∷ vs) on = let a = and_parts (is_on p (point_of M v)) (are_on M p vs) on in λ i. over (point_of M v) a.0 i && on_other M p q over vs a.1 i

pub planar_lie_flat : PlanarLieFlat
unfolding is_flat plane_of
planar_lie_flat M p f sound there on ne =
    let n = normal M f in
    let own : (r : Point) → is_on p r ≡ true → is_on (plane_of M f) r ≡ true = λ r at.
    ap (λ h. int_eq h (pos 0)) (ap (λ h. h +ℤ neg_ℤ (dot n (anchor M f))) (dot_turned n r ∙ told_anywhere M p f r sound there on at ∙ dot_turned (anchor M f) n) ∙ level_self (dot n (anchor M f))) in
    λ i. some_way n ne i && on_other M p (plane_of M f) own (corners M f) (and_parts (not (same_point (direction p) origin)) (are_on M p (corners M f)) on).1 i

pub reached : (x y : ℤ) → x +ℤ (y -ℤ x) ≡ y
reached x y = omega (arith, ints)

pub sides_lie_flat : SidesLieFlat
sides_lie_flat d a b ne =
    let there : moved a (towards a b) ≡ b = same_vector _ _ (reached a.x b.x) (reached a.y b.y) (reached a.z b.z) in
    subst (λ q. lie_flat (a ∷ q ∷ moved q d ∷ moved a d ∷ []) ≡ true) there (parallelogram a (towards a b) d ne)

-- ---- a face that was swept

level_moved : (q d r : ℤ) → (q +ℤ d) +ℤ neg_ℤ (r +ℤ d) ≡ q +ℤ neg_ℤ r
level_moved q d r = omega (arith, ints)

on_moved : (n r d q : Point) → is_on (plane_through n (moved r d)) (moved q d) ≡ is_on (plane_through n r) q
on_moved n r d q =
    let at : (p : Point) → dot n (moved p d) ≡ dot n p +ℤ dot d n = λ p. dot_turned n (moved p d) ∙ dot_moved p d n ∙ ap (λ h. h +ℤ dot d n) (dot_turned p n) in
    ap (λ h. int_eq h (pos 0)) ((λ i. at q i +ℤ neg_ℤ (at r i)) ∙ level_moved (dot n q) (dot d n) (dot n r))

all_moved_on : (n r d : Point) (ps : List Point) → list_all (is_on (plane_through n (moved r d))) (all_moved d ps) ≡ list_all (is_on (plane_through n r)) ps
all_moved_on n r d [] = refl
all_moved_on n r d (p ∷ ps) = λ i. on_moved n r d p i && all_moved_on n r d ps i

pub flat_is : (M : Model) (f : ℕ) → is_flat M f ≡ (not (same_point (direction (plane_of M f)) origin) && list_all (is_on (plane_of M f)) (corner_points M f))
unfolding is_flat
flat_is M f = ap (λ b. not (same_point (direction (plane_of M f)) origin) && b) (sym (list_all-map (is_on (plane_of M f)) (point_of M) (corners M f)))

-- a face that stands as it did is as flat as it was
pub stands_flat : (M N : Model) (k : ℕ) → StandsAsBefore M N k → is_flat N k ≡ is_flat M k
stands_flat M N k same = flat_is N k ∙ (λ i. not (same_point (direction (same.plane i)) origin) && list_all (is_on (same.plane i)) (same.points i)) ∙ sym (flat_is M k)

far_flat : (M N : Model) (f : ℕ) (d : Point) → IsFarFace M N f d → is_flat N f ≡ is_flat M f
unfolding plane_of
far_flat M N f d far =
    flat_is N f
    ∙ (λ i. not (same_point (direction (far.plane i)) origin) && list_all (is_on (far.plane i)) (far.points i))
    ∙ ap (λ b. not (same_point (normal M f) origin) && b) (all_moved_on (normal M f) (anchor M f) d (corner_points M f))
    ∙ sym (flat_is M f)

pub far_faces_lie_flat : FarFacesLieFlat
far_faces_lie_flat before after f d sound made = far_flat (held before) (held after) f d (ringed_face_is_far before after f d sound made)
