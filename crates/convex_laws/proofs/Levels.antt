-- How high a point lies over a plane: signs of products and sums, heights along a normal, and of a point that divides a step.
use Rattle.convex_laws.proofs.Prelude.{◌≡◌, ◌≢◌, ℕ, zero, suc, ◌+◌, ◌*◌, ℤ, pos, negsuc, ◌+ℤ◌, ◌-ℤ◌, ◌*ℤ◌, neg_ℤ, int_lt, true, false, refl, sym, ap, subst, ◌∙◌, arith, true≢false, ints, Plane, Point, direction, dot, height, dif-parts, difs, neg-dif, same_dif, plane_through, scaled, towards, dot_towards, dot_turned}
use Rattle.command_laws.proofs.splits_laws.Along.{both, parted}

-- ---- signs

-- a number that isn't positive
abbrev pub IsLow : ℤ → Type 0
IsLow x = int_lt (pos 0) x ≡ false

pub low_is : (x : ℤ) → IsLow x → (n : ℕ) × (x ≡ neg_ℤ (pos n))
low_is (pos zero) e = (0, refl)
low_is (pos (suc n)) e = absurd (grind (arith, ints))
low_is (negsuc n) e = (suc n, refl)

pub is_low : (n : ℕ) → IsLow (neg_ℤ (pos n))
is_low n = grind (arith, ints)

pub low_sum : (x y : ℤ) → IsLow x → IsLow y → IsLow (x +ℤ y)
low_sum x y a b = grind (arith, ints)

-- a sum isn't negative where no part is, and is positive where a part is, besides
pub no_less : (x y : ℤ) → int_lt x (pos 0) ≡ false → int_lt y (pos 0) ≡ false → int_lt (x +ℤ y) (pos 0) ≡ false
no_less x y a b = grind (arith, ints)

pub first_more : (x y : ℤ) → int_lt (pos 0) x ≡ true → int_lt y (pos 0) ≡ false → int_lt (pos 0) (x +ℤ y) ≡ true
first_more x y a b = grind (arith, ints)

pub rest_more : (x y : ℤ) → int_lt x (pos 0) ≡ false → int_lt (pos 0) y ≡ true → int_lt (pos 0) (x +ℤ y) ≡ true
rest_more x y a b = grind (arith, ints)

pub product_back : (x y : ℤ) → x *ℤ neg_ℤ y ≡ neg_ℤ (x *ℤ y)
product_back x y = rw (dif-parts x, dif-parts y) (simp (difs, neg-dif) (same_dif _ _ _ _ (omega arith)))

pub twice_back : (x : ℤ) → neg_ℤ (neg_ℤ x) ≡ x
twice_back x = omega (arith, ints)

pub product_part : (m n : ℕ) → pos m *ℤ neg_ℤ (pos n) ≡ neg_ℤ (pos (m * n))
product_part m n = product_back (pos m) (pos n)

pub low_times : (m : ℕ) (x : ℤ) → IsLow x → IsLow (pos m *ℤ x)
low_times m x low = let w = low_is x low in subst IsLow (sym (ap (λ y. pos m *ℤ y) w.1 ∙ product_part m w.0)) (is_low (m * w.0))

over : (k : ℕ) → k ≢ 0 → int_lt (pos 0) (pos k) ≡ true
over zero ne = absurd (ne refl)
over (suc k) ne = grind (arith, ints)

some_product : (m n : ℕ) → suc m * suc n ≢ 0
some_product m n e = omega arith

low_back : (m : ℕ) (x : ℤ) → IsLow (pos (suc m) *ℤ x) → IsLow x
low_back m (pos zero) e = is_low 0
low_back m (pos (suc n)) e = absurd (true≢false (sym (over (suc m * suc n) (some_product m n)) ∙ e))
low_back m (negsuc n) e = is_low (suc n)

-- ---- heights

-- the height over the plane through r, across n
pub height_at : (n r q : Point) → height (plane_through n r) q ≡ dot n (towards r q)
height_at n r q = sym (dot_turned n (towards r q) ∙ dot_towards r q n ∙ (λ i. dot_turned q n i -ℤ dot_turned r n i))

-- what a plane's direction tells of a step
pub step_told : (t : Plane) (r q : Point) → dot (direction t) (towards r q) ≡ height t q -ℤ height t r
step_told t r q = sym (height_at (direction t) r q) ∙ same_rise (dot (direction t) q) (dot (direction t) r) t.d where
  same_rise : (x y d : ℤ) → x -ℤ y ≡ (x +ℤ d) -ℤ (y +ℤ d)
  same_rise x y d = omega (arith, ints)

-- ---- a point that divides a step

scaled_part : (k a b c x y z : ℤ) → a *ℤ (k *ℤ x) +ℤ b *ℤ (k *ℤ y) +ℤ c *ℤ (k *ℤ z) ≡ k *ℤ (a *ℤ x +ℤ b *ℤ y +ℤ c *ℤ z)
scaled_part k a b c x y z = rw (dif-parts k, dif-parts a, dif-parts b, dif-parts c, dif-parts x, dif-parts y, dif-parts z) (simp difs (same_dif _ _ _ _ (omega arith)))

pub dot_scaled : (k : ℤ) (n p : Point) → dot n (scaled k p) ≡ k *ℤ dot n p
dot_scaled k n p = scaled_part k n.x n.y n.z p.x p.y p.z

shares_part : (m n : ℕ) (c p q : ℤ) → pos (m + n) *ℤ (c -ℤ p) ≡ pos m *ℤ (q -ℤ p) → pos (m + n) *ℤ c ≡ pos m *ℤ q +ℤ pos n *ℤ p
shares_part m n c p q e = turned (pos (m + n) *ℤ c) (pos (m + n) *ℤ p) (pos m *ℤ q) (pos m *ℤ p) (pos n *ℤ p) (sym (parted (pos (m + n)) c p) ∙ e ∙ parted (pos m) q p) (summed m n p) where
  summed : (m n : ℕ) (p : ℤ) → pos (m + n) *ℤ p ≡ pos m *ℤ p +ℤ pos n *ℤ p
  summed m n p = both (pos m) (pos n) p

  turned : (a b c d e : ℤ) → a -ℤ b ≡ c -ℤ d → b ≡ d +ℤ e → a ≡ c +ℤ e
  turned a b c d e f g = omega (arith, ints)

-- a point that divides the step from p to q by whole numbers m and n lies no higher than both
pub divided_low : (t : Plane) (m n : ℕ) (p c q : Point) → m + n ≢ 0 → scaled (pos (m + n)) (towards p c) ≡ scaled (pos m) (towards p q) → IsLow (height t p) → IsLow (height t q) → IsLow (height t c)
divided_low t m n p c q some e low_p low_q = held (m + n) some refl where
  told : pos (m + n) *ℤ height t c ≡ pos m *ℤ height t q +ℤ pos n *ℤ height t p
  told = shares_part m n (height t c) (height t p) (height t q)
      (sym (ap (λ h. pos (m + n) *ℤ h) (step_told t p c)) ∙ sym (dot_scaled (pos (m + n)) (direction t) (towards p c)) ∙ ap (dot (direction t)) e ∙ dot_scaled (pos m) (direction t) (towards p q) ∙ ap (λ h. pos m *ℤ h) (step_told t p q))

  held : (k : ℕ) → k ≢ 0 → k ≡ m + n → IsLow (height t c)
  held zero ne is = absurd (ne refl)
  held (suc k) ne is = low_back k (height t c) (subst IsLow (sym (ap (λ j. pos j *ℤ height t c) is ∙ told)) (low_sum (pos m *ℤ height t q) (pos n *ℤ height t p) (low_times m (height t q) low_q) (low_times n (height t p) low_p)))
