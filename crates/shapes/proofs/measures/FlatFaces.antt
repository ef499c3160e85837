-- What the normal of a flat face is across: all ways between two points of its plane.
use Rattle.shapes.proofs.Prelude.{◌≡◌, ◌≢◌, ℕ, Bool, true, not, ◌&&◌, ℤ, pos, ◌+ℤ◌, neg_ℤ, List, [], ◌∷◌, ◌++◌, map, refl, sym, ap, ◌∙◌, arith, true≢false, inl, inr, list_all, signed_Decides, ints, and_parts, Point, Plane, origin, moved, dot, cross, same_point, is_on, height, direction, Model, LoopContent, lone, cycle, items_of, tail, content, outer, point_of, Sound, Has, lists, listed_cases, start, finish, loops_of, items_in, boundary, vertices_on, vertices_in, corners, area, normal, anchor, first_vertex, plane_through, plane_of, is_plane_of, is_flat, scaled, towards, dot_turned}
use Rattle.shapes.proofs.Areas.{area-append}
use Rattle.shapes.proofs.measures.Products.{cross_moved, cross_nothing, flat_step, no_way, same_part}
use Rattle.shapes.proofs.measures.Paths.{begins, IsPathTo, IsClosed, loop_closed}

-- ---- tests

pub list_parts : (p : ℕ → Bool) (xs ys : List ℕ) → list_all p (xs ++ ys) ≡ true → (list_all p xs ≡ true) × (list_all p ys ≡ true)
list_parts p [] ys e = (refl, e)
list_parts p (x ∷ xs) ys e = let a = and_parts (p x) (list_all p (xs ++ ys)) e in let r = list_parts p xs ys a.1 in (λ i. a.0 i && r.0 i, r.1)

-- all these vertices lie on the plane
abbrev pub are_on : Model → Plane → List ℕ → Bool
are_on M s vs = list_all (λ v. is_on s (point_of M v)) vs

-- the product of a plane's points along its direction
pub on_plane : (s : Plane) (p : Point) → is_on s p ≡ true → dot (direction s) p ≡ neg_ℤ s.d
on_plane s p e = part (dot (direction s) p) s.d ((signed_Decides (height s p) (pos 0)).0 e) where
  part : (a d : ℤ) → a +ℤ d ≡ pos 0 → a ≡ neg_ℤ d
  part a d e = omega (arith, ints)

pub some_direction : (s : Plane) → not (same_point (direction s) origin) ≡ true → direction s ≢ origin
some_direction s e z = true≢false (sym e ∙ ap (λ p. not (same_point p origin)) z)

-- ---- paths on a plane

module _ (M : Model) (s : Plane) where
  begins_on : (hs : List ℕ) (e : Point) → are_on M s (map (tail M) hs) ≡ true → dot (direction s) e ≡ neg_ℤ s.d → dot (direction s) (begins M hs e) ≡ neg_ℤ s.d
  begins_on [] e on on_e = on_e
  begins_on (h ∷ hs) e on on_e = on_plane s (start M h) (and_parts _ _ on).0

  flat_path : (hs : List ℕ) (e : Point) → IsPathTo M hs e → are_on M s (map (tail M) hs) ≡ true → dot (direction s) e ≡ neg_ℤ s.d →
      cross (direction s) (area M hs) ≡ scaled (neg_ℤ s.d) (towards e (begins M hs e))
  flat_path [] e leads on on_e = cross_nothing (direction s) ∙ sym (no_way (neg_ℤ s.d) e)
  flat_path (h ∷ hs) e leads on on_e =
      let a = and_parts (is_on s (start M h)) (are_on M s (map (tail M) hs)) on in
      flat_step (direction s) (start M h) (finish M h) e (area M hs) (neg_ℤ s.d) (on_plane s (start M h) a.0)
      (ap (dot (direction s)) leads.0 ∙ begins_on hs e a.1 on_e)
      (flat_path hs e leads.1 a.1 on_e ∙ ap (λ p. scaled (neg_ℤ s.d) (towards e p)) (sym leads.0))

  -- the area of a closed path on a plane has no product across with the plane's direction
  pub flat_closed : (hs : List ℕ) → IsClosed M hs → are_on M s (map (tail M) hs) ≡ true → cross (direction s) (area M hs) ≡ origin
  flat_closed [] closed on = cross_nothing (direction s)
  flat_closed (h ∷ hs) closed on = flat_path (h ∷ hs) (start M h) closed on (begins_on (h ∷ hs) (start M h) on (on_plane s (start M h) (and_parts _ _ on).0)) ∙ no_way (neg_ℤ s.d) (start M h)

  content_flat : (x : LoopContent) → IsClosed M (items_of x) → are_on M s (vertices_on M x) ≡ true → cross (direction s) (area M (items_of x)) ≡ origin
  content_flat (lone v) closed on = cross_nothing (direction s)
  content_flat (cycle hs) closed on = flat_closed hs closed on

  -- nor have some loops together
  pub loops_flat : Sound M → (ls : List ℕ) → are_on M s (vertices_in M ls) ≡ true → cross (direction s) (area M (items_in M ls)) ≡ origin
  loops_flat sound [] on = cross_nothing (direction s)
  loops_flat sound (l ∷ ls) on =
      let a = list_parts (λ v. is_on s (point_of M v)) (vertices_on M (content M l)) (vertices_in M ls) on in
      ap (cross (direction s)) (area-append M (items_of (content M l)) (items_in M ls)) ∙ cross_moved (direction s) (area M (items_of (content M l))) (area M (items_in M ls))
      ∙ (λ i. moved (content_flat (content M l) (loop_closed M sound l) a.0 i) (loops_flat sound ls a.1 i))

  -- two points of the plane tell the same of a vector that has no product across with its direction
  pub told_alike : (a r q : Point) → direction s ≢ origin → cross (direction s) a ≡ origin → is_on s r ≡ true → is_on s q ≡ true → dot r a ≡ dot q a
  told_alike a r q ne flat on_r on_q = same_part (direction s) q r a flat ne (dot_turned q (direction s) ∙ on_plane s q on_q ∙ sym (on_plane s r on_r) ∙ dot_turned (direction s) r)

  -- so for some loops
  pub loops_told : (ls : List ℕ) (r q : Point) → Sound M → is_plane_of M s (vertices_in M ls) ≡ true → is_on s r ≡ true → is_on s q ≡ true → dot r (area M (items_in M ls)) ≡ dot q (area M (items_in M ls))
  loops_told ls r q sound on on_r on_q = grind (arith, and_parts, told_alike, some_direction, loops_flat)

  -- and for a face
  pub face_told : (f : ℕ) (r q : Point) → Sound M → is_plane_of M s (corners M f) ≡ true → is_on s r ≡ true → is_on s q ≡ true → dot r (normal M f) ≡ dot q (normal M f)
  unfolding normal boundary corners
  face_told f r q sound on on_r on_q = loops_told (loops_of M f) r q sound on on_r on_q

  -- ---- the anchor is a corner

  first_on : (x : LoopContent) → x ≢ cycle [] → are_on M s (vertices_on M x) ≡ true → is_on s (point_of M (first_vertex M x)) ≡ true
  first_on (lone v) ne on = (and_parts _ _ on).0
  first_on (cycle []) ne on = absurd (ne refl)
  first_on (cycle (h ∷ hs)) ne on = (and_parts _ _ on).0

  pub anchor_on : (f : ℕ) → Sound M → Has M.faces f → are_on M s (corners M f) ≡ true → is_on s (anchor M f) ≡ true
  unfolding corners loops_of
  anchor_on f sound there on = first_on (content M (outer M f)) (λ e. (sound.cycles (outer M f) [] (sound.outers_there f there).0 e).some_item refl)
      (list_parts (λ v. is_on s (point_of M v)) (vertices_on M (content M (outer M f))) _ on).0

  -- the six volumes over a face, told from any point of its plane
  pub told_anywhere : (f : ℕ) (r : Point) → Sound M → Has M.faces f → is_plane_of M s (corners M f) ≡ true → is_on s r ≡ true → dot r (normal M f) ≡ dot (anchor M f) (normal M f)
  told_anywhere f r sound there on on_r = face_told f r (anchor M f) sound on on_r (anchor_on f sound there (and_parts (not (same_point (direction s) origin)) (are_on M s (corners M f)) on).1)

-- ---- the face's own plane

listed_on : (M : Model) (s : Plane) (vs : List ℕ) (v : ℕ) → are_on M s vs ≡ true → lists vs v ≡ true → is_on s (point_of M v) ≡ true
listed_on M s [] v on i = absurd (true≢false (sym i))
listed_on M s (w ∷ vs) v on i = let a = and_parts (is_on s (point_of M w)) (are_on M s vs) on in elim (listed_cases w v vs i) [
  | inl e ↦ ap (λ k. is_on s (point_of M k)) e ∙ a.0
  | inr j ↦ listed_on M s vs v a.1 j
]

-- any point of a face's plane tells what the anchor does
pub plane_told : (M : Model) (f : ℕ) (r : Point) → is_on (plane_of M f) r ≡ true → dot r (normal M f) ≡ dot (anchor M f) (normal M f)
unfolding plane_of
plane_told M f r on = dot_turned r (normal M f) ∙ on_plane (plane_through (normal M f) (anchor M f)) r on ∙ twice (dot (normal M f) (anchor M f)) ∙ dot_turned (normal M f) (anchor M f) where
  twice : (a : ℤ) → neg_ℤ (neg_ℤ a) ≡ a
  twice a = omega (arith, ints)

-- so any corner of a flat face
pub corner_told : (M : Model) (f v : ℕ) → is_flat M f ≡ true → lists (corners M f) v ≡ true → dot (point_of M v) (normal M f) ≡ dot (anchor M f) (normal M f)
unfolding is_flat
corner_told M f v flat i = plane_told M f (point_of M v) (listed_on M (plane_of M f) (corners M f) v (and_parts (not (same_point (direction (plane_of M f)) origin)) (are_on M (plane_of M f) (corners M f)) flat).1 i)
