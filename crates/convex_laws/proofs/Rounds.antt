-- Which way a face looks, seen from a point between two others; and what it says of a face whose corners lie on a plane that it looks along it.
use Rattle.convex_laws.proofs.Prelude.{int_eq, ◌≡◌, ◌≢◌, ℕ, ℤ, pos, ◌+ℤ◌, ◌*ℤ◌, neg_ℤ, int_lt, true, false, not, ◌&&◌, List, [], ◌∷◌, refl, sym, ap, subst, ◌∙◌, arith, true≢false, inl, inr, eqb_tells, and_parts, false_from_ne_true, ints, Plane, Point, IsIn, cross, direction, dot, height, is_above, is_on, origin, same_point, Model, face_at, face_of, loop_of, point_of, Sound, Has, HasHalf, cycle_there, dif-parts, difs, dot_origin, dot_turned, IsIn_head, IsIn_rest, item_loop, loop_there, same_dif, tick_other, anchor, area, boundary, corners, finish, is_flat, loops_of, normal, plane_of, scaled, start, towards, IsClosed, anchor_on, are_on, cross_nothing, face_of_loop, items_there, same_is, told_alike, cross_across, item_in_face, swept_from, dot_sum}
use Rattle.shapes.proofs.measures.FlatFaces.{loops_flat}
use Rattle.convex_laws.proofs.Levels.{IsLow, dot_scaled, first_more, height_at, low_sum, low_times, no_less, rest_more}
use Rattle.convex_laws.proofs.Planes.{low_step}
use Rattle.convex_laws.proofs.Seen.{closed_seen, face_seen, seen}
use Rattle.convex_laws.proofs.Turns.{IsHigh, either_sign, exchanged_product, has_length, low_factor, low_product, no_times, same_end, swept_over, weighed, high_factor, high_times}
use Rattle.convex_laws.proofs.Volumes.{item_of_one}

-- ---- the half-edges of a face

pub boundary_half : (M : Model) → Sound M → (k h : ℕ) → Has M.faces k → IsIn h (boundary M k) → HasHalf M h × (face_at M h ≡ k)
unfolding boundary
boundary_half M sound k h there i =
    let l = item_of_one M sound (loops_of M k) h i in
    (items_there M sound (loops_of M k) h i, ap (face_of M) (item_loop M sound l.0 h l.2) ∙ (face_of_loop M sound k l.0 there l.1).1)

pub in_boundary : (M : Model) → Sound M → (h : ℕ) → HasHalf M h → IsIn h (boundary M (face_at M h))
in_boundary M sound h there = item_in_face M h (loop_of M h) (loop_there M sound h there) (cycle_there M sound h there)

-- ---- sums of what half-edges sweep over

weighed_sum : (a b x y u v : ℤ) → (a *ℤ x +ℤ b *ℤ y) +ℤ (a *ℤ u +ℤ b *ℤ v) ≡ a *ℤ (x +ℤ u) +ℤ b *ℤ (y +ℤ v)
weighed_sum a b x y u v = rw (dif-parts a, dif-parts b, dif-parts x, dif-parts y, dif-parts u, dif-parts v) (simp difs (same_dif _ _ _ _ (omega arith)))

pub weighed_none : (a b z : ℤ) → z ≡ pos 0 → a *ℤ z +ℤ b *ℤ z ≡ pos 0
weighed_none a b z e = both (a *ℤ z) (b *ℤ z) (ap (λ x. a *ℤ x) e ∙ exchanged_product a (pos 0) ∙ no_times a) (ap (λ x. b *ℤ x) e ∙ exchanged_product b (pos 0) ∙ no_times b) where
  both : (x y : ℤ) → x ≡ pos 0 → y ≡ pos 0 → x +ℤ y ≡ pos 0
  both x y e f = omega (arith, ints)

pub weighed_low : (a b : ℕ) (x y : ℤ) → IsLow x → IsLow y → IsLow (weighed a b x y)
weighed_low a b x y e f = low_sum (pos a *ℤ x) (pos b *ℤ y) (low_times a x e) (low_times b y f)

weighed_high : (a b : ℕ) (x : ℤ) → IsHigh (weighed a b x x) → IsHigh x
weighed_high a b x high = elim (either_sign x) [
  | inr e ↦ e
  | inl low ↦ absurd (true≢false (sym high ∙ weighed_low a b x x low low))
]

module _ (M : Model) (n u w : Point) (a b : ℕ) where
  abbrev pub seen_by : ℕ → ℤ
  seen_by h = swept_over n u w (start M h) (finish M h) a b

  abbrev seen_total : List ℕ → ℤ
  seen_total [] = pos 0
  seen_total (h ∷ hs) = seen_by h +ℤ seen_total hs

  total_is : (hs : List ℕ) → seen_total hs ≡ weighed a b (dot n (seen M u hs)) (dot n (seen M w hs))
  total_is [] = sym (weighed_none (pos a) (pos b) (dot n origin) (dot_turned n origin ∙ dot_origin n))
  total_is (h ∷ hs) = ap (λ x. seen_by h +ℤ x) (total_is hs)
      ∙ weighed_sum (pos a) (pos b) (dot n (swept_from M u h)) (dot n (swept_from M w h)) (dot n (seen M u hs)) (dot n (seen M w hs))
      ∙ (λ i. weighed a b (sym (dot_sum n (swept_from M u h) (seen M u hs)) i) (sym (dot_sum n (swept_from M w h) (seen M w hs)) i))

  none_back : (hs : List ℕ) → ((h : ℕ) → IsIn h hs → int_lt (seen_by h) (pos 0) ≡ false) → int_lt (seen_total hs) (pos 0) ≡ false
  none_back [] each = refl
  none_back (h ∷ hs) each = no_less (seen_by h) (seen_total hs) (each h (IsIn_head h hs)) (none_back hs (λ x i. each x (IsIn_rest x h hs i)))

  some_on : (hs : List ℕ) → ((h : ℕ) → IsIn h hs → int_lt (seen_by h) (pos 0) ≡ false) → (x : ℕ) → IsIn x hs → IsHigh (seen_by x) → IsHigh (seen_total hs)
  some_on [] each x i on = absurd (omega (arith, i))
  some_on (h ∷ hs) each x i on = elim (eqb_tells x h) [
    | inl e ↦ first_more (seen_by h) (seen_total hs) (subst (λ y. IsHigh (seen_by y)) e.1 on) (none_back hs (λ y j. each y (IsIn_rest y h hs j)))
    | inr e ↦ rest_more (seen_by h) (seen_total hs) (each h (IsIn_head h hs)) (some_on hs (λ y j. each y (IsIn_rest y h hs j)) x (omega (arith, i, tick_other x h e.1)) on)
  ]

  along : (hs : List ℕ) (v : Point) → v ≡ seen M u hs → v ≡ seen M w hs → ((h : ℕ) → IsIn h hs → int_lt (seen_by h) (pos 0) ≡ false) → (x : ℕ) → IsIn x hs → IsHigh (seen_by x) → IsHigh (dot n v)
  along hs v from_u from_w each x i on = weighed_high a b (dot n v) (subst IsHigh (total_is hs ∙ (λ j. weighed a b (dot n (sym from_u j)) (dot n (sym from_w j)))) (some_on hs each x i on))

  -- a face none of whose half-edges goes backwards, and one of which goes forwards, looks along the vector
  pub face_looks : Sound M → (k : ℕ) → ((h : ℕ) → IsIn h (boundary M k) → int_lt (seen_by h) (pos 0) ≡ false) → (x : ℕ) → IsIn x (boundary M k) → IsHigh (seen_by x) → IsHigh (dot n (normal M k))
  face_looks sound k each x i on = along (boundary M k) (normal M k) (face_seen M u sound k) (face_seen M w sound k) each x i on

  -- and the area round such a closed path
  pub path_looks : (hs : List ℕ) → IsClosed M hs → ((h : ℕ) → IsIn h hs → int_lt (seen_by h) (pos 0) ≡ false) → (x : ℕ) → IsIn x hs → IsHigh (seen_by x) → IsHigh (dot n (area M hs))
  path_looks hs closed each x i on = along hs (area M hs) (closed_seen M u hs closed) (closed_seen M w hs closed) each x i on

-- ---- a face that looks along a plane's direction

module _ (G : Model) (sound : Sound G) (k : ℕ) (there : Has G.faces k) (n : Plane) (on : are_on G n (corners G k) ≡ true) (looks : IsHigh (dot (direction n) (normal G k))) where
  abbrev K : Point
  K = normal G k

  some_normal : K ≢ origin
  some_normal e = true≢false (sym looks ∙ ap (λ v. int_lt (pos 0) (dot (direction n) v)) e ∙ ap (int_lt (pos 0)) (dot_turned (direction n) origin ∙ dot_origin (direction n)))

  across : cross (direction n) K ≡ origin
  unfolding normal boundary corners
  across = loops_flat G n sound (loops_of G k) on

  -- its normal points as the direction does
  same_way : (e : Point) → dot K K *ℤ dot e (direction n) ≡ dot K (direction n) *ℤ dot e K
  same_way e = sym (dot_scaled (dot K K) e (direction n))
      ∙ ap (dot e) (same_end (scaled (dot K (direction n)) K) (scaled (dot K K) (direction n)) (sym (cross_across K (direction n) K (dot K K) (dot K (direction n)) refl refl) ∙ ap (cross K) across ∙ cross_nothing K))
      ∙ dot_scaled (dot K (direction n)) e K

  low_too : (e : Point) → IsLow (dot (direction n) e) → IsLow (dot K e)
  low_too e low = ap (int_lt (pos 0)) (dot_turned K e) ∙ low_factor (dot K (direction n)) (dot e K) (ap (int_lt (pos 0)) (dot_turned K (direction n)) ∙ looks)
      (subst IsLow (same_way e) (low_product (dot K K) (dot e (direction n)) (has_length K some_normal) (ap (int_lt (pos 0)) (dot_turned e (direction n)) ∙ low)))

  -- what points along the direction points along the normal
  pub high_too : (e : Point) → IsHigh (dot e (direction n)) → IsHigh (dot e (normal G k))
  high_too e high = high_factor (dot K (direction n)) (dot e K) (ap (int_lt (pos 0)) (dot_turned K (direction n)) ∙ looks)
      (subst IsHigh (same_way e) (high_times (dot K K) (dot e (direction n)) (has_length K some_normal) high))

  anchored : is_on n (anchor G k) ≡ true
  anchored = anchor_on G n k sound there on

  height_is : (q : Point) → height (plane_of G k) q ≡ dot K (towards (anchor G k) q)
  unfolding plane_of
  height_is q = height_at K (anchor G k) q

  -- what isn't above the plane isn't above the face
  pub under_face : (q : Point) → is_above n q ≡ false → is_above (plane_of G k) q ≡ false
  under_face q low = ap (int_lt (pos 0)) (height_is q) ∙ low_too (towards (anchor G k) q) (low_step n (anchor G k) q anchored low)

  -- a corner on the plane is on the face's own
  own_on : (q : Point) → is_on n q ≡ true → is_on (plane_of G k) q ≡ true
  unfolding plane_of
  own_on q on_q = ap (λ h. int_eq h (pos 0)) (level (dot K q) (dot K (anchor G k)) (dot_turned K q ∙ told_alike G n K q (anchor G k) some_way across on_q anchored ∙ dot_turned (anchor G k) K)) where
    level : (x y : ℤ) → x ≡ y → x +ℤ neg_ℤ y ≡ pos 0
    level x y e = omega (arith, ints, e)

    some_way : direction n ≢ origin
    some_way e = true≢false (sym looks ∙ ap (λ v. int_lt (pos 0) (dot v K)) e ∙ ap (int_lt (pos 0)) (dot_origin K))

  all_own : (vs : List ℕ) → are_on G n vs ≡ true → are_on G (plane_of G k) vs ≡ true
  all_own [] e = refl
  all_own (v ∷ vs) e = let a = and_parts (is_on n (point_of G v)) (are_on G n vs) e in λ i. own_on (point_of G v) a.0 i && all_own vs a.1 i

  pub lies_flat : is_flat G k ≡ true
  unfolding is_flat plane_of
  lies_flat = λ i. not (false_from_ne_true (same_point K origin) (λ e. some_normal (same_is K origin e)) i) && all_own (corners G k) on i
