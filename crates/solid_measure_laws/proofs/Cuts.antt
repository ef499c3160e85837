-- Where a segment meets a plane: the point lies on the plane, and divides the segment as the heights of its ends.
-- Cut there, the segment keeps its part of an area.
use Rattle.std.proofs.Common.{◌≡◌, ◌≢◌, ◌⊎◌, inl, inr, ℕ, zero, suc, ◌+◌, ◌/◌, ◌%◌, ◌<◌, Bool, true, ◌&&◌, ℤ, pos, negsuc, ◌+ℤ◌, ◌-ℤ◌, ◌*ℤ◌, neg_ℤ, unsigned_abs, int_div, int_rem, refl, sym, ap, ◌∙◌, arith, ◌*◌, cond, Some, None, int_eq}
use Rattle.std.specs.Cmp.{signed_Decides}
use Rattle.std.proofs.lemmas.Int.{ints, quot-rem, rem_below, unsigned_abs-mul}
use Rattle.std.proofs.Math.Nat.{div-zero, zero-div, zero-mod}
use Rattle.euler_operators.specs.Common.{Point, Plane, origin, moved, cross, height, is_on, opposite, are_opposite, cut_multiple, cuts_lattice, cut_between}
use Rattle.euler_operators.proofs.Common.{dif-parts, difs, neg-dif, same_dif, number, same_vector, moved_none, opposite_apart, turned_difference}
use Rattle.shapes.specs.Common.{scaled, towards}
use Rattle.shapes.proofs.Common.{no_product}
use Rattle.solid_measure_laws.specs.Laws.{CutsMissNone}

-- ---- one coordinate: from p to q, m and n the heights there, x the coordinate of the cut

whole : (t w : ℤ) → int_eq (int_rem t w) (pos 0) ≡ true → int_div t w *ℤ (w) ≡ t
whole t w e = omega (arith, ints, quot-rem t w, (signed_Decides (int_rem t w) (pos 0)).0 e)

pub spread : (x p w : ℤ) → (x -ℤ p) *ℤ w ≡ x *ℤ w -ℤ p *ℤ w
spread x p w = rw (dif-parts x, dif-parts p, dif-parts w) (simp difs (same_dif _ _ _ _ (omega arith)))

divided : (p q m n x : ℤ) → x *ℤ (m -ℤ n) ≡ q *ℤ m -ℤ p *ℤ n → (x -ℤ p) *ℤ (m -ℤ n) ≡ (q -ℤ p) *ℤ m
divided p q m n x e = spread x p (m -ℤ n) ∙ ap (λ t. t -ℤ p *ℤ (m -ℤ n)) e
    ∙ rw (dif-parts p, dif-parts q, dif-parts m, dif-parts n) (simp difs (same_dif _ _ _ _ (omega arith)))

-- ---- the height of the cut

height_part : (a b c d x y z w : ℤ) → (a *ℤ x +ℤ b *ℤ y +ℤ c *ℤ z +ℤ d) *ℤ w ≡ a *ℤ (x *ℤ w) +ℤ b *ℤ (y *ℤ w) +ℤ c *ℤ (z *ℤ w) +ℤ d *ℤ w
height_part a b c d x y z w = rw (dif-parts a, dif-parts b, dif-parts c, dif-parts d, dif-parts x, dif-parts y, dif-parts z, dif-parts w) (simp difs (same_dif _ _ _ _ (omega arith)))

share : (a p q m n : ℤ) → a *ℤ (q *ℤ m -ℤ p *ℤ n) ≡ (a *ℤ q) *ℤ m -ℤ (a *ℤ p) *ℤ n
share a p q m n = rw (dif-parts a, dif-parts p, dif-parts q, dif-parts m, dif-parts n) (simp difs (same_dif _ _ _ _ (omega arith)))

both : (a b c d e f g m n : ℤ) →
    (a *ℤ m -ℤ e *ℤ n) +ℤ (b *ℤ m -ℤ f *ℤ n) +ℤ (c *ℤ m -ℤ g *ℤ n) +ℤ d *ℤ (m -ℤ n) ≡ (a +ℤ b +ℤ c +ℤ d) *ℤ m -ℤ (e +ℤ f +ℤ g +ℤ d) *ℤ n
both a b c d e f g m n = rw (dif-parts a, dif-parts b, dif-parts c, dif-parts d, dif-parts e, dif-parts f, dif-parts g, dif-parts m, dif-parts n) (simp difs (same_dif _ _ _ _ (omega arith)))

-- u and v are the heights of p and q over the plane
height_at : (a b c d px py pz qx qy qz x y z m n u v : ℤ) → a *ℤ px +ℤ b *ℤ py +ℤ c *ℤ pz +ℤ d ≡ u → a *ℤ qx +ℤ b *ℤ qy +ℤ c *ℤ qz +ℤ d ≡ v →
    x *ℤ (m -ℤ n) ≡ qx *ℤ m -ℤ px *ℤ n → y *ℤ (m -ℤ n) ≡ qy *ℤ m -ℤ py *ℤ n → z *ℤ (m -ℤ n) ≡ qz *ℤ m -ℤ pz *ℤ n →
    (a *ℤ x +ℤ b *ℤ y +ℤ c *ℤ z +ℤ d) *ℤ (m -ℤ n) ≡ v *ℤ m -ℤ u *ℤ n
height_at a b c d px py pz qx qy qz x y z m n u v at_p at_q ex ey ez = height_part a b c d x y z (m -ℤ n)
    ∙ (λ i. (ap (λ t. a *ℤ t) ex ∙ share a px qx m n) i +ℤ (ap (λ t. b *ℤ t) ey ∙ share b py qy m n) i +ℤ (ap (λ t. c *ℤ t) ez ∙ share c pz qz m n) i +ℤ d *ℤ (m -ℤ n))
    ∙ both (a *ℤ qx) (b *ℤ qy) (c *ℤ qz) d (a *ℤ px) (b *ℤ py) (c *ℤ pz) m n
    ∙ (λ i. at_q i *ℤ m -ℤ at_p i *ℤ n)

level_part : (m n z : ℤ) → z ≡ pos 0 → z *ℤ m -ℤ z *ℤ n ≡ z
level_part m n z e = rw (dif-parts m, dif-parts n, e ∙ number 0) (simp difs (same_dif _ _ _ _ (omega arith)))

-- ---- heights of opposite signs

pub some_height : (m n : ℤ) → opposite m n ≡ true → (0 < unsigned_abs m) × (0 < unsigned_abs n)
some_height m n e = grind (arith, ints)

some_parts : (m n : ℕ) → 0 < m → pos (m + n) ≢ pos 0
some_parts m n l e = absurd (omega (arith, l, ap unsigned_abs e))

signs : (m n : ℤ) → opposite m n ≡ true →
    ((m ≡ pos (unsigned_abs m)) × (m -ℤ n ≡ pos (unsigned_abs m + unsigned_abs n))) ⊎ ((m ≡ neg_ℤ (pos (unsigned_abs m))) × (m -ℤ n ≡ neg_ℤ (pos (unsigned_abs m + unsigned_abs n))))
signs m n e = grind (arith, ints)

order : (x w : ℤ) → x *ℤ w ≡ w *ℤ x
order x w = rw (dif-parts x, dif-parts w) (simp difs (same_dif _ _ _ _ (omega arith)))

turned : (x w : ℤ) → x *ℤ neg_ℤ w ≡ neg_ℤ (w *ℤ x)
turned x w = rw (dif-parts x, dif-parts w) (simp (difs, neg-dif) (same_dif _ _ _ _ (omega arith)))

pub turned_back : (a b : ℤ) → neg_ℤ a ≡ neg_ℤ b → a ≡ b
turned_back a b e = omega (arith, ints)

-- (x - p) in units of both heights is (q - p) in units of the first
pub ratio : (m n d g : ℤ) → opposite m n ≡ true → g *ℤ (m -ℤ n) ≡ d *ℤ m → pos (unsigned_abs m + unsigned_abs n) *ℤ g ≡ pos (unsigned_abs m) *ℤ d
ratio m n d g o e = elim (signs m n o) [
  | inl s ↦ sym (order g (pos (unsigned_abs m + unsigned_abs n))) ∙ ap (λ w. g *ℤ w) (sym s.1) ∙ e ∙ ap (λ w. d *ℤ w) s.0 ∙ order d (pos (unsigned_abs m))
  | inr s ↦ turned_back _ _ (sym (turned g (pos (unsigned_abs m + unsigned_abs n))) ∙ ap (λ w. g *ℤ w) (sym s.1) ∙ e ∙ ap (λ w. d *ℤ w) s.0 ∙ turned d (pos (unsigned_abs m)))
]

-- ---- a point of the line through p and q

line_part : (w a b c e : ℤ) → (a *ℤ c -ℤ b *ℤ e) *ℤ w ≡ (w *ℤ a) *ℤ c -ℤ (w *ℤ b) *ℤ e
line_part w a b c e = rw (dif-parts w, dif-parts a, dif-parts b, dif-parts c, dif-parts e) (simp difs (same_dif _ _ _ _ (omega arith)))

same_line : (k c e : ℤ) → (k *ℤ e) *ℤ c -ℤ (k *ℤ c) *ℤ e ≡ pos 0
same_line k c e = rw (dif-parts k, dif-parts c, dif-parts e, number 0) (simp difs (same_dif _ _ _ _ (omega arith)))

along : (w k a b c e : ℤ) → w ≢ pos 0 → w *ℤ a ≡ k *ℤ e → w *ℤ b ≡ k *ℤ c → a *ℤ c -ℤ b *ℤ e ≡ pos 0
along w k a b c e some ea eb = no_product w (a *ℤ c -ℤ b *ℤ e) (line_part w a b c e ∙ (λ i. ea i *ℤ c -ℤ eb i *ℤ e) ∙ same_line k c e) some

-- from (a, b) over (h, k) to (e, f)
through_part : (a b e f h k : ℤ) → (a *ℤ k -ℤ b *ℤ h) +ℤ (h *ℤ f -ℤ k *ℤ e) ≡ (a *ℤ f -ℤ b *ℤ e) +ℤ ((h -ℤ a) *ℤ (f -ℤ b) -ℤ (k -ℤ b) *ℤ (e -ℤ a))
through_part a b e f h k = rw (dif-parts a, dif-parts b, dif-parts e, dif-parts f, dif-parts h, dif-parts k) (simp difs (same_dif _ _ _ _ (omega arith)))

-- a step that is cut at a point of its line keeps its part of an area
pub cut_area : (w k : ℤ) (p q c : Point) → w ≢ pos 0 → scaled w (towards p c) ≡ scaled k (towards p q) → moved (cross p c) (cross c q) ≡ cross p q
cut_area w k p q c some e =
    same_vector _ (moved (cross p q) (cross (towards p c) (towards p q))) (through_part p.y p.z q.y q.z c.y c.z) (through_part p.z p.x q.z q.x c.z c.x) (through_part p.x p.y q.x q.y c.x c.y)
    ∙ ap (moved (cross p q)) (same_vector _ origin
    (along w k (c.y -ℤ p.y) (c.z -ℤ p.z) (q.z -ℤ p.z) (q.y -ℤ p.y) some (ap (λ v. v.y) e) (ap (λ v. v.z) e))
    (along w k (c.z -ℤ p.z) (c.x -ℤ p.x) (q.x -ℤ p.x) (q.z -ℤ p.z) some (ap (λ v. v.z) e) (ap (λ v. v.x) e))
    (along w k (c.x -ℤ p.x) (c.y -ℤ p.y) (q.y -ℤ p.y) (q.x -ℤ p.x) some (ap (λ v. v.x) e) (ap (λ v. v.y) e)))
    ∙ moved_none (cross p q)

-- ---- the cut

module _ (s : Plane) (p q : Point) (o : are_opposite s p q ≡ true) (cuts : cuts_lattice s p q ≡ true) where
  parts : (a b c : Bool) → (a && b && c) ≡ true → (a ≡ true) × (b ≡ true) × (c ≡ true)
  parts a b c e = grind (arith, e)

  abbrev m : ℤ
  m = height s p

  abbrev n : ℤ
  n = height s q

  abbrev cut : Point
  cut = cut_between s p q

  abbrev rem_none : ℤ → ℤ → Bool
  rem_none a b = int_eq (int_rem (cut_multiple s p q a b) (m -ℤ n)) (pos 0)

  all_whole : (rem_none p.x q.x ≡ true) × (rem_none p.y q.y ≡ true) × (rem_none p.z q.z ≡ true)
  all_whole = parts (rem_none p.x q.x) (rem_none p.y q.y) (rem_none p.z q.z) cuts

  x_is : cut.x *ℤ (m -ℤ n) ≡ q.x *ℤ m -ℤ p.x *ℤ n
  x_is = whole (cut_multiple s p q p.x q.x) (m -ℤ n) all_whole.0

  y_is : cut.y *ℤ (m -ℤ n) ≡ q.y *ℤ m -ℤ p.y *ℤ n
  y_is = whole (cut_multiple s p q p.y q.y) (m -ℤ n) all_whole.1

  z_is : cut.z *ℤ (m -ℤ n) ≡ q.z *ℤ m -ℤ p.z *ℤ n
  z_is = whole (cut_multiple s p q p.z q.z) (m -ℤ n) all_whole.2

  -- its height over any plane
  height_told : (t : Plane) (u v : ℤ) → height t p ≡ u → height t q ≡ v → height t cut *ℤ (m -ℤ n) ≡ v *ℤ m -ℤ u *ℤ n
  height_told t u v at_p at_q = height_at t.a t.b t.c t.d p.x p.y p.z q.x q.y q.z cut.x cut.y cut.z m n u v at_p at_q x_is y_is z_is

  height_none : (t : Plane) → height t cut *ℤ (m -ℤ n) ≡ pos 0 → is_on t cut ≡ true
  height_none t e = (signed_Decides (height t cut) (pos 0)).1 (no_product (m -ℤ n) (height t cut) e (opposite_apart m n o))

  pub cut_on : is_on s (cut_between s p q) ≡ true
  cut_on = height_none s (height_told s m n refl refl ∙ rw (dif-parts m, dif-parts n, number 0) (simp difs (same_dif _ _ _ _ (omega arith))))

  -- it lies on each plane on which both ends lie
  pub cut_on_each : (t : Plane) → is_on t p ≡ true → is_on t q ≡ true → is_on t (cut_between s p q) ≡ true
  cut_on_each t on_p on_q = height_none t (height_told t (pos 0) (pos 0) ((signed_Decides (height t p) (pos 0)).0 on_p) ((signed_Decides (height t q) (pos 0)).0 on_q) ∙ level_part m n (pos 0) refl)

  pub cut_divides : scaled (pos (unsigned_abs (height s p) + unsigned_abs (height s q))) (towards p (cut_between s p q)) ≡ scaled (pos (unsigned_abs (height s p))) (towards p q)
  cut_divides = same_vector _ _
      (ratio m n (q.x -ℤ p.x) (cut.x -ℤ p.x) o (divided p.x q.x m n cut.x x_is))
      (ratio m n (q.y -ℤ p.y) (cut.y -ℤ p.y) o (divided p.y q.y m n cut.y y_is))
      (ratio m n (q.z -ℤ p.z) (cut.z -ℤ p.z) o (divided p.z q.z m n cut.z z_is))

  -- and cuts the step from p to q into two with the same area
  pub cut_keeps_area : moved (cross p (cut_between s p q)) (cross (cut_between s p q) q) ≡ cross p q
  cut_keeps_area = cut_area (pos (unsigned_abs m + unsigned_abs n)) (pos (unsigned_abs m)) p q cut (some_parts (unsigned_abs m) (unsigned_abs n) (some_height m n o).0) cut_divides

-- ---- from the other end

none_over : (n : ℕ) → neg_ℤ (pos (0 / n)) ≡ pos (0 / n)
none_over n = ap (λ k. neg_ℤ (pos k)) (zero-div n) ∙ sym (ap pos (zero-div n))

by_none : (n : ℕ) → neg_ℤ (pos (n / 0)) ≡ pos (n / 0)
by_none n = ap (λ k. neg_ℤ (pos k)) (div-zero n) ∙ sym (ap pos (div-zero n))

quotient_turned : (a w : ℤ) → int_div (neg_ℤ a) (neg_ℤ w) ≡ int_div a w
quotient_turned (pos zero) (pos zero) = refl
quotient_turned (pos zero) (pos (suc w)) = none_over (suc w)
quotient_turned (pos zero) (negsuc w) = sym (none_over (suc w))
quotient_turned (pos (suc a)) (pos zero) = by_none (suc a)
quotient_turned (pos (suc a)) (pos (suc w)) = refl
quotient_turned (pos (suc a)) (negsuc w) = refl
quotient_turned (negsuc a) (pos zero) = sym (by_none (suc a))
quotient_turned (negsuc a) (pos (suc w)) = refl
quotient_turned (negsuc a) (negsuc w) = refl

same_size : (w : ℤ) → unsigned_abs (neg_ℤ w) ≡ unsigned_abs w
same_size w = grind (arith, ints)

twice_turned : (n : ℕ) → neg_ℤ (neg_ℤ (pos n)) ≡ pos n
twice_turned n = omega (arith, ints)

remainder_turned : (a w : ℤ) → int_rem (neg_ℤ a) (neg_ℤ w) ≡ neg_ℤ (int_rem a w)
remainder_turned (pos zero) w = ap (λ k. pos (0 % k)) (same_size w) ∙ ap pos (zero-mod (unsigned_abs w)) ∙ sym (ap (λ k. neg_ℤ (pos k)) (zero-mod (unsigned_abs w)))
remainder_turned (pos (suc a)) w = ap (λ k. neg_ℤ (pos (suc a % k))) (same_size w)
remainder_turned (negsuc a) w = ap (λ k. pos (suc a % k)) (same_size w) ∙ sym (twice_turned (suc a % unsigned_abs w))

module _ (s : Plane) (p q : Point) where
  abbrev multiple : ℤ → ℤ → ℤ
  multiple a b = cut_multiple s p q a b

  abbrev gap : ℤ
  gap = height s p -ℤ height s q

  turned_multiple : (a b : ℤ) → cut_multiple s q p b a ≡ neg_ℤ (multiple a b)
  turned_multiple a b =
      rw (dif-parts a, dif-parts b, dif-parts (height s p), dif-parts (height s q)) (simp (difs, neg-dif) (same_dif _ _ _ _ (omega arith)))

  quotient : (a b : ℤ) → int_div (cut_multiple s q p b a) (height s q -ℤ height s p) ≡ int_div (multiple a b) gap
  quotient a b = (λ i. int_div (turned_multiple a b i) (turned_difference (height s p) (height s q) i)) ∙ quotient_turned (multiple a b) gap

  remainder : (a b : ℤ) → int_eq (int_rem (cut_multiple s q p b a) (height s q -ℤ height s p)) (pos 0) ≡ int_eq (int_rem (multiple a b) gap) (pos 0)
  remainder a b = (λ i. int_eq (int_rem (turned_multiple a b i) (turned_difference (height s p) (height s q) i)) (pos 0))
      ∙ ap (λ r. int_eq r (pos 0)) (remainder_turned (multiple a b) gap) ∙ grind (arith, ints)

  pub cuts_either_way : (cuts_lattice s q p ≡ cuts_lattice s p q) × (cut_between s q p ≡ cut_between s p q)
  cuts_either_way = (
    λ i. remainder p.x q.x i && remainder p.y q.y i && remainder p.z q.z i,
    same_vector _ _ (quotient p.x q.x) (quotient p.y q.y) (quotient p.z q.z),
  )

-- ---- each lattice point of the plane inside the segment is the cut point

-- ---- a multiple of a number, divided by it

no_times : (a b c : ℕ) → a * b ≡ c → c < b → a ≡ 0
no_times zero b c e l = refl
no_times (suc a) b c e l = absurd (omega (arith, e, l))

rest : (a b r t : ℤ) → a ≡ t → b +ℤ r ≡ t → a -ℤ b ≡ r
rest a b r t e f = omega (arith, ints)

module _ (x w t : ℤ) (some : w ≢ pos 0) (e : x *ℤ w ≡ t) where
  left_over : (x -ℤ int_div t w) *ℤ w ≡ int_rem t w
  left_over = spread x (int_div t w) w ∙ rest (x *ℤ w) (int_div t w *ℤ w) (int_rem t w) t e (quot-rem t w)

  left_size : unsigned_abs (x -ℤ int_div t w) * unsigned_abs w ≡ unsigned_abs (int_rem t w)
  left_size = sym (unsigned_abs-mul (x -ℤ int_div t w) w) ∙ ap unsigned_abs left_over

  none_left : unsigned_abs (x -ℤ int_div t w) ≡ 0
  none_left = no_times (unsigned_abs (x -ℤ int_div t w)) (unsigned_abs w) (unsigned_abs (int_rem t w)) left_size (rem_below t w (grind (arith, ints)))

  quotient_is : int_div t w ≡ x
  quotient_is = omega (arith, ints, none_left)

  remainder_is : int_rem t w ≡ pos 0
  remainder_is = omega (arith, ints, left_size, ap (λ n. n * unsigned_abs w) none_left)

-- ---- the heights along a line

share_gap : (a p r w : ℤ) → w *ℤ (a *ℤ r -ℤ a *ℤ p) ≡ a *ℤ (w *ℤ (r -ℤ p))
share_gap a p r w = rw (dif-parts a, dif-parts p, dif-parts r, dif-parts w) (simp difs (same_dif _ _ _ _ (omega arith)))

gap_parts : (w x y z a b c d : ℤ) → w *ℤ ((x +ℤ y +ℤ z +ℤ d) -ℤ (a +ℤ b +ℤ c +ℤ d)) ≡ w *ℤ (x -ℤ a) +ℤ w *ℤ (y -ℤ b) +ℤ w *ℤ (z -ℤ c)
gap_parts w x y z a b c d = rw (dif-parts w, dif-parts x, dif-parts y, dif-parts z, dif-parts a, dif-parts b, dif-parts c, dif-parts d) (simp difs (same_dif _ _ _ _ (omega arith)))

height_gap : (s : Plane) (p r : Point) (w : ℤ) → w *ℤ (height s r -ℤ height s p) ≡ s.a *ℤ (w *ℤ (r.x -ℤ p.x)) +ℤ s.b *ℤ (w *ℤ (r.y -ℤ p.y)) +ℤ s.c *ℤ (w *ℤ (r.z -ℤ p.z))
height_gap s p r w = gap_parts w (s.a *ℤ r.x) (s.b *ℤ r.y) (s.c *ℤ r.z) (s.a *ℤ p.x) (s.b *ℤ p.y) (s.c *ℤ p.z) s.d
    ∙ (λ i. share_gap s.a p.x r.x w i +ℤ share_gap s.b p.y r.y w i +ℤ share_gap s.c p.z r.z w i)

heights_divided : (s : Plane) (p q r : Point) (w k : ℤ) → scaled w (towards p r) ≡ scaled k (towards p q) → w *ℤ (height s r -ℤ height s p) ≡ k *ℤ (height s q -ℤ height s p)
heights_divided s p q r w k e = height_gap s p r w ∙ (λ i. s.a *ℤ (e i).x +ℤ s.b *ℤ (e i).y +ℤ s.c *ℤ (e i).z) ∙ sym (height_gap s p q k)

down_part : (w m : ℤ) → w *ℤ (pos 0 -ℤ m) ≡ neg_ℤ (w *ℤ m)
down_part w m = rw (dif-parts w, dif-parts m, number 0) (simp (difs, neg-dif) (same_dif _ _ _ _ (omega arith)))

back_part : (k m n : ℤ) → k *ℤ (n -ℤ m) ≡ neg_ℤ (k *ℤ (m -ℤ n))
back_part k m n = rw (dif-parts k, dif-parts m, dif-parts n) (simp (difs, neg-dif) (same_dif _ _ _ _ (omega arith)))

-- from height m to height 0, and on to height n
levelled : (w k m n h : ℤ) → h ≡ pos 0 → w *ℤ (h -ℤ m) ≡ k *ℤ (n -ℤ m) → w *ℤ m ≡ k *ℤ (m -ℤ n)
levelled w k m n h z e = turned_back _ _ (sym (down_part w m) ∙ ap (λ t. w *ℤ (t -ℤ m)) (sym z) ∙ e ∙ back_part k m n)

-- ---- one coordinate: from p to q, x that of the point, m and n the heights of the ends

meet : (w p q x m n : ℤ) → (x *ℤ (m -ℤ n) -ℤ (q *ℤ m -ℤ p *ℤ n)) *ℤ w ≡ (w *ℤ (x -ℤ p)) *ℤ (m -ℤ n) -ℤ (q -ℤ p) *ℤ (w *ℤ m)
meet w p q x m n = rw (dif-parts w, dif-parts p, dif-parts q, dif-parts x, dif-parts m, dif-parts n) (simp difs (same_dif _ _ _ _ (omega arith)))

even : (k d g : ℤ) → (k *ℤ d) *ℤ g -ℤ d *ℤ (k *ℤ g) ≡ pos 0
even k d g = rw (dif-parts k, dif-parts d, dif-parts g, number 0) (simp difs (same_dif _ _ _ _ (omega arith)))

no_difference : (a b : ℤ) → a -ℤ b ≡ pos 0 → a ≡ b
no_difference a b e = omega (arith, ints)

coordinate_met : (w k p q x m n : ℤ) → w ≢ pos 0 → w *ℤ (x -ℤ p) ≡ k *ℤ (q -ℤ p) → w *ℤ m ≡ k *ℤ (m -ℤ n) → x *ℤ (m -ℤ n) ≡ q *ℤ m -ℤ p *ℤ n
coordinate_met w k p q x m n some e f = no_difference _ _ (no_product w (x *ℤ (m -ℤ n) -ℤ (q *ℤ m -ℤ p *ℤ n))
    (meet w p q x m n ∙ (λ i. e i *ℤ (m -ℤ n) -ℤ (q -ℤ p) *ℤ f i) ∙ even k (q -ℤ p) (m -ℤ n)) some)

-- ---- the point

pub cuts_miss_none : CutsMissNone
cuts_miss_none s m n p q r o on d =
    let w = pos (m + n) in
    let k = pos m in
    let g = height s p -ℤ height s q in
    let some = some_parts m n d.0 in
    let gap : g ≢ pos 0 = opposite_apart (height s p) (height s q) o in
    let level = levelled w k (height s p) (height s q) (height s r) ((signed_Decides (height s r) (pos 0)).0 on) (heights_divided s p q r w k d.2) in
    let x = coordinate_met w k p.x q.x r.x (height s p) (height s q) some (ap (λ v. v.x) d.2) level in
    let y = coordinate_met w k p.y q.y r.y (height s p) (height s q) some (ap (λ v. v.y) d.2) level in
    let z = coordinate_met w k p.z q.z r.z (height s p) (height s q) some (ap (λ v. v.z) d.2) level in
    (λ i. cond (int_eq (remainder_is r.x g _ gap x i) (pos 0) && int_eq (remainder_is r.y g _ gap y i) (pos 0) && int_eq (remainder_is r.z g _ gap z i) (pos 0)) (Some (cut_between s p q)) None)
    ∙ ap Some (λ i. record { x = quotient_is r.x g _ gap x i; y = quotient_is r.y g _ gap y i; z = quotient_is r.z g _ gap z i })
