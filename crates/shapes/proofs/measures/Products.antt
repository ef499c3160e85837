-- Products along and across: of sums and of products, along a closed path, and of what is across a direction.
use Rattle.shapes.proofs.Prelude.{◌≡◌, ◌≢◌, ◌⊎◌, inl, inr, ℕ, zero, suc, ◌*◌, ℤ, pos, ◌+ℤ◌, ◌-ℤ◌, ◌*ℤ◌, unsigned_abs, refl, sym, ap, ◌∙◌, arith, ints, unsigned_abs-mul, Point, origin, moved, dot, cross, dif-parts, difs, same_dif, number, same_vector, scaled, towards}

-- ---- across a sum

sum_part : (a b y z u v : ℤ) → a *ℤ (z +ℤ v) -ℤ b *ℤ (y +ℤ u) ≡ (a *ℤ z -ℤ b *ℤ y) +ℤ (a *ℤ v -ℤ b *ℤ u)
sum_part a b y z u v = rw (dif-parts a, dif-parts b, dif-parts y, dif-parts z, dif-parts u, dif-parts v) (simp difs (same_dif _ _ _ _ (omega arith)))

pub cross_moved : (n p q : Point) → cross n (moved p q) ≡ moved (cross n p) (cross n q)
cross_moved n p q = same_vector _ _ (sum_part n.y n.z p.y p.z q.y q.z) (sum_part n.z n.x p.z p.x q.z q.x) (sum_part n.x n.y p.x p.y q.x q.y)

nothing_part : (a b : ℤ) → a *ℤ pos 0 -ℤ b *ℤ pos 0 ≡ pos 0
nothing_part a b = rw (dif-parts a, dif-parts b, number 0) (simp difs (same_dif _ _ _ _ (omega arith)))

pub cross_nothing : (n : Point) → cross n origin ≡ origin
cross_nothing n = same_vector _ _ (nothing_part n.y n.z) (nothing_part n.z n.x) (nothing_part n.x n.y)

-- ---- across a product: n x (p x q) is (n . q) p - (n . p) q

-- one coordinate, where u is n . q and v is n . p
across_part : (a b c e f g h k l u v : ℤ) → a *ℤ h +ℤ b *ℤ k +ℤ c *ℤ l ≡ u → a *ℤ e +ℤ b *ℤ f +ℤ c *ℤ g ≡ v → b *ℤ (e *ℤ k -ℤ f *ℤ h) -ℤ c *ℤ (g *ℤ h -ℤ e *ℤ l) ≡ u *ℤ e -ℤ v *ℤ h
across_part a b c e f g h k l u v is_u is_v =
    rw (dif-parts a, dif-parts b, dif-parts c, dif-parts e, dif-parts f, dif-parts g, dif-parts h, dif-parts k, dif-parts l) (simp difs (same_dif _ _ _ _ (omega arith))) ∙ (λ i. is_u i *ℤ e -ℤ is_v i *ℤ h)

second_first : (a b c : ℤ) → b +ℤ c +ℤ a ≡ a +ℤ b +ℤ c
second_first a b c = omega (arith, ints)

from_y : (n q : Point) → n.y *ℤ q.y +ℤ n.z *ℤ q.z +ℤ n.x *ℤ q.x ≡ dot n q
from_y n q = second_first (n.x *ℤ q.x) (n.y *ℤ q.y) (n.z *ℤ q.z)

from_z : (n q : Point) → n.z *ℤ q.z +ℤ n.x *ℤ q.x +ℤ n.y *ℤ q.y ≡ dot n q
from_z n q = sym (second_first (n.z *ℤ q.z) (n.x *ℤ q.x) (n.y *ℤ q.y))

pub cross_across : (n p q : Point) (u v : ℤ) → dot n q ≡ u → dot n p ≡ v → cross n (cross p q) ≡ towards (scaled v q) (scaled u p)
cross_across n p q u v is_u is_v = same_vector _ _
    (across_part n.x n.y n.z p.x p.y p.z q.x q.y q.z u v is_u is_v)
    (across_part n.y n.z n.x p.y p.z p.x q.y q.z q.x u v (from_y n q ∙ is_u) (from_y n p ∙ is_v))
    (across_part n.z n.x n.y p.z p.x p.y q.z q.x q.y u v (from_z n q ∙ is_u) (from_z n p ∙ is_v))

-- ---- along a path on a plane with n . p = c, from p over q to e

step_part : (c p q e : ℤ) → (c *ℤ p -ℤ c *ℤ q) +ℤ c *ℤ (q -ℤ e) ≡ c *ℤ (p -ℤ e)
step_part c p q e = rw (dif-parts c, dif-parts p, dif-parts q, dif-parts e) (simp difs (same_dif _ _ _ _ (omega arith)))

pub flat_step : (n p q e a : Point) (c : ℤ) → dot n p ≡ c → dot n q ≡ c → cross n a ≡ scaled c (towards e q) → cross n (moved (cross p q) a) ≡ scaled c (towards e p)
flat_step n p q e a c on_p on_q is = cross_moved n (cross p q) a ∙ (λ i. moved (cross_across n p q c c on_q on_p i) (is i)) ∙ same_vector _ _ (step_part c p.x q.x e.x) (step_part c p.y q.y e.y) (step_part c p.z q.z e.z)

none_part : (c p : ℤ) → c *ℤ (p -ℤ p) ≡ pos 0
none_part c p = rw (dif-parts c, dif-parts p, number 0) (simp difs (same_dif _ _ _ _ (omega arith)))

-- the way from a point to itself
pub no_way : (c : ℤ) (p : Point) → scaled c (towards p p) ≡ origin
no_way c p = same_vector _ _ (none_part c p.x) (none_part c p.y) (none_part c p.z)

-- ---- a direction and a vector that have no product across

no_size : (t : ℤ) → unsigned_abs t ≡ 0 → t ≡ pos 0
no_size t e = grind (arith, ints)

no_factor : (m n : ℕ) → m * n ≡ 0 → (m ≡ 0) ⊎ (n ≡ 0)
no_factor zero n e = inl refl
no_factor (suc m) zero e = inr refl
no_factor (suc m) (suc n) e = absurd (omega arith)

zero_factor : (t a : ℤ) → t *ℤ a ≡ pos 0 → (t ≡ pos 0) ⊎ (a ≡ pos 0)
zero_factor t a e = elim (no_factor (unsigned_abs t) (unsigned_abs a) (sym (unsigned_abs-mul t a) ∙ ap unsigned_abs e)) [ inl z ↦ inl (no_size t z) | inr z ↦ inr (no_size a z) ]

pub no_product : (w x : ℤ) → x *ℤ w ≡ pos 0 → w ≢ pos 0 → x ≡ pos 0
no_product w x e ne = elim (zero_factor x w e) [ inl z ↦ z | inr z ↦ absurd (ne z) ]

left_part : (z t a b : ℤ) → z ≡ pos 0 → t *ℤ a ≡ t *ℤ a -ℤ z *ℤ b
left_part z t a b e = sym (rw (dif-parts t, dif-parts a, dif-parts b, e ∙ number 0) (simp difs (same_dif _ _ _ _ (omega arith))))

-- what is across n has no part along what n has no product across with
pub no_part : (n v a : Point) → cross n a ≡ origin → dot v n ≡ pos 0 → n ≢ origin → dot v a ≡ pos 0
no_part n v a flat level ne = elim (zero_factor (dot v a) n.x (left_part (dot v n) (dot v a) n.x a.x level ∙ ap (λ p. p.x) whole)) [
  | inl z ↦ z
  | inr ex ↦ elim (zero_factor (dot v a) n.y (left_part (dot v n) (dot v a) n.y a.y level ∙ ap (λ p. p.y) whole)) [
    | inl z ↦ z
    | inr ey ↦ elim (zero_factor (dot v a) n.z (left_part (dot v n) (dot v a) n.z a.z level ∙ ap (λ p. p.z) whole)) [ inl z ↦ z | inr ez ↦ absurd (ne (same_vector n origin ex ey ez)) ]
  ]
] where
  whole : towards (scaled (dot v n) a) (scaled (dot v a) n) ≡ origin
  whole = sym (cross_across v n a (dot v a) (dot v n) refl refl) ∙ ap (cross v) flat ∙ cross_nothing v

way_part : (a b c e f g h k l : ℤ) → (e -ℤ h) *ℤ a +ℤ (f -ℤ k) *ℤ b +ℤ (g -ℤ l) *ℤ c ≡ (e *ℤ a +ℤ f *ℤ b +ℤ g *ℤ c) -ℤ (h *ℤ a +ℤ k *ℤ b +ℤ l *ℤ c)
way_part a b c e f g h k l = rw (dif-parts a, dif-parts b, dif-parts c, dif-parts e, dif-parts f, dif-parts g, dif-parts h, dif-parts k, dif-parts l) (simp difs (same_dif _ _ _ _ (omega arith)))

pub dot_towards : (q r a : Point) → dot (towards q r) a ≡ dot r a -ℤ dot q a
dot_towards q r a = way_part a.x a.y a.z r.x r.y r.z q.x q.y q.z

-- so two points with the same product along n have the same along such a vector
pub same_part : (n q r a : Point) → cross n a ≡ origin → n ≢ origin → dot q n ≡ dot r n → dot r a ≡ dot q a
same_part n q r a flat ne level = equal (dot r a) (dot q a) (sym (dot_towards q r a) ∙ no_part n (towards q r) a flat (dot_towards q r n ∙ same (dot r n) (dot q n) (sym level)) ne) where
  equal : (x y : ℤ) → x -ℤ y ≡ pos 0 → x ≡ y
  equal x y e = omega (arith, ints)

  same : (x y : ℤ) → x ≡ y → x -ℤ y ≡ pos 0
  same x y e = omega (arith, ints)
