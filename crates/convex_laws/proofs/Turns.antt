-- How far a vector lies to the right of a step, seen from above: signs of products, and what three vectors across a step tell of each other.
use Rattle.convex_laws.proofs.Prelude.{◌≡◌, ◌≢◌, ◌⊎◌, ℕ, zero, suc, ◌+◌, ◌*◌, ℤ, pos, negsuc, ◌+ℤ◌, ◌-ℤ◌, ◌*ℤ◌, neg_ℤ, int_lt, Bool, true, false, refl, sym, ap, subst, ◌∙◌, arith, true≢false, inl, inr, ints, Point, dot, cross, moved, origin, dif-parts, difs, neg-dif, same_dif, same_vector, dot_turned, dot_origin, number, negated, scaled, towards, cross_nothing, cross_across, dot_sum, dot_back, cross_back}
use Rattle.convex_laws.proofs.Levels.{IsLow, dot_scaled, is_low, low_is, product_back, product_part, twice_back}

-- ---- signs

-- a number that is positive
abbrev pub IsHigh : ℤ → Type 0
IsHigh x = int_lt (pos 0) x ≡ true

high_is : (x : ℤ) → IsHigh x → (k : ℕ) × (x ≡ pos (suc k))
high_is (pos zero) e = absurd (grind (arith, ints))
high_is (pos (suc n)) e = (n, refl)
high_is (negsuc n) e = absurd (grind (arith, ints))

pub high_at : (n : ℕ) → IsHigh (pos (suc n))
high_at n = grind (arith, ints)

high_product : (m n : ℕ) → IsHigh (pos (suc m) *ℤ pos (suc n))
high_product m n = subst (λ k. IsHigh (pos k)) (is m n) (high_at (n + m * suc n)) where
  is : (m n : ℕ) → suc (n + m * suc n) ≡ suc m * suc n
  is m n = omega arith

pub high_times : (x y : ℤ) → IsHigh x → IsHigh y → IsHigh (x *ℤ y)
high_times x y a b = let v = high_is x a in let w = high_is y b in subst IsHigh (λ i. sym v.1 i *ℤ sym w.1 i) (high_product v.0 w.0)

pub low_product : (x y : ℤ) → IsHigh x → IsLow y → IsLow (x *ℤ y)
low_product x y a b = let v = high_is x a in let w = low_is y b in subst IsLow (sym ((λ i. v.1 i *ℤ w.1 i) ∙ product_part (suc v.0) w.0)) (is_low (suc v.0 * w.0))

pub either_sign : (y : ℤ) → IsLow y ⊎ IsHigh y
either_sign y = told (int_lt (pos 0) y) refl where
  told : (b : Bool) → int_lt (pos 0) y ≡ b → IsLow y ⊎ IsHigh y
  told true e = inr e
  told false e = inl e

-- a factor is as its product where the other one is positive
pub low_factor : (x y : ℤ) → IsHigh x → IsLow (x *ℤ y) → IsLow y
low_factor x y a e = elim (either_sign y) [
  | inl low ↦ low
  | inr high ↦ absurd (true≢false (sym (high_times x y a high) ∙ e))
]

pub high_factor : (x y : ℤ) → IsHigh x → IsHigh (x *ℤ y) → IsHigh y
high_factor x y a e = elim (either_sign y) [
  | inr high ↦ high
  | inl low ↦ absurd (true≢false (sym e ∙ low_product x y a low))
]

pub not_under : (x : ℤ) → IsHigh x → int_lt x (pos 0) ≡ false
not_under x e = grind (arith, ints)

square_part : (x : ℤ) → int_lt (x *ℤ x) (pos 0) ≡ false
square_part (pos zero) = refl
square_part (pos (suc n)) = not_under (pos (suc n) *ℤ pos (suc n)) (high_product n n)
square_part (negsuc n) = not_under (pos (suc n) *ℤ pos (suc n)) (high_product n n)

-- ---- products

triple_part : (a b c d e f g h k : ℤ) → (b *ℤ f -ℤ c *ℤ e) *ℤ g +ℤ (c *ℤ d -ℤ a *ℤ f) *ℤ h +ℤ (a *ℤ e -ℤ b *ℤ d) *ℤ k ≡ a *ℤ (e *ℤ k -ℤ f *ℤ h) +ℤ b *ℤ (f *ℤ g -ℤ d *ℤ k) +ℤ c *ℤ (d *ℤ h -ℤ e *ℤ g)
triple_part a b c d e f g h k = rw (dif-parts a, dif-parts b, dif-parts c, dif-parts d, dif-parts e, dif-parts f, dif-parts g, dif-parts h, dif-parts k) (simp difs (same_dif _ _ _ _ (omega arith)))

triple : (a b c : Point) → dot (cross a b) c ≡ dot a (cross b c)
triple a b c = triple_part a.x a.y a.z b.x b.y b.z c.x c.y c.z

pub no_times : (x : ℤ) → pos 0 *ℤ x ≡ pos 0
no_times x = omega (arith, ints)

none_left : (x y : ℤ) → pos 0 *ℤ x -ℤ pos 0 *ℤ y ≡ pos 0
none_left x y = omega (arith, ints)

no_way : (p q : Point) → towards (scaled (pos 0) p) (scaled (pos 0) q) ≡ origin
no_way p q = same_vector _ _ (none_left q.x p.x) (none_left q.y p.y) (none_left q.z p.z)

pub same_end : (p q : Point) → towards p q ≡ origin → q ≡ p
same_end p q e = same_vector q p (same q.x p.x (ap (λ v. v.x) e)) (same q.y p.y (ap (λ v. v.y) e)) (same q.z p.z (ap (λ v. v.z) e)) where
  same : (x y : ℤ) → x -ℤ y ≡ pos 0 → x ≡ y
  same x y e = omega (arith, ints)

less_none : (n p q : Point) (k : ℤ) → dot n (towards (scaled (pos 0) p) (scaled k q)) ≡ k *ℤ dot n q
less_none n p q k = ap (dot n) (same_vector _ (scaled k q) (less (k *ℤ q.x) p.x) (less (k *ℤ q.y) p.y) (less (k *ℤ q.z) p.z)) ∙ dot_scaled k n q where
  less : (x y : ℤ) → x -ℤ pos 0 *ℤ y ≡ x
  less x y = omega (arith, ints)

-- ---- how far e lies to the right of a step d, where n looks up

abbrev pub turn : Point → Point → Point → ℤ
turn n d e = dot d (cross n e)

module _ (n d m : Point) (level : dot d n ≡ pos 0) (beside : dot d m ≡ pos 0) where
  -- a step across n and m leads along their product
  parallel : scaled (turn n d m) d ≡ scaled (dot d d) (cross n m)
  parallel = same_end (scaled (dot d d) (cross n m)) (scaled (turn n d m) d)
      (sym (cross_across d d (cross n m) (turn n d m) (dot d d) refl refl) ∙ ap (cross d) (cross_across d n m (pos 0) (pos 0) beside level ∙ no_way m n) ∙ cross_nothing d)

  pub told_along : (p : Point) → turn n d m *ℤ dot p d ≡ dot d d *ℤ dot p (cross n m)
  told_along p = sym (dot_scaled (turn n d m) p d) ∙ ap (dot p) parallel ∙ dot_scaled (dot d d) p (cross n m)

  pub turn_key : (e : Point) → dot e n ≡ pos 0 → turn n d m *ℤ turn n d e ≡ dot d d *ℤ (dot e m *ℤ dot n n)
  turn_key e across = ap (λ x. turn n d m *ℤ x) (dot_turned d (cross n e)) ∙ told_along (cross n e)
      ∙ ap (λ x. dot d d *ℤ x) (triple n e (cross n m) ∙ ap (dot n) (cross_across e n m (dot e m) (pos 0) refl across) ∙ less_none n m n (dot e m))

pub turn_back : (n d e : Point) → turn n d e ≡ neg_ℤ (turn n e d)
turn_back n d e = sym (triple d n e) ∙ dot_turned (cross d n) e ∙ ap (dot e) (cross_back n d) ∙ dot_back e (cross n d)

swept_part : (a b c p q r s t u x y z : ℤ) →
    a *ℤ ((t -ℤ q) *ℤ (z -ℤ r) -ℤ (u -ℤ r) *ℤ (y -ℤ q)) +ℤ b *ℤ ((u -ℤ r) *ℤ (x -ℤ p) -ℤ (s -ℤ p) *ℤ (z -ℤ r)) +ℤ c *ℤ ((s -ℤ p) *ℤ (y -ℤ q) -ℤ (t -ℤ q) *ℤ (x -ℤ p))
    ≡ neg_ℤ ((x -ℤ s) *ℤ (b *ℤ (r -ℤ u) -ℤ c *ℤ (q -ℤ t)) +ℤ (y -ℤ t) *ℤ (c *ℤ (p -ℤ s) -ℤ a *ℤ (r -ℤ u)) +ℤ (z -ℤ u) *ℤ (a *ℤ (q -ℤ t) -ℤ b *ℤ (p -ℤ s)))
swept_part a b c p q r s t u x y z = rw (dif-parts a, dif-parts b, dif-parts c, dif-parts p, dif-parts q, dif-parts r, dif-parts s, dif-parts t, dif-parts u, dif-parts x, dif-parts y, dif-parts z) (simp (difs, neg-dif) (same_dif _ _ _ _ (omega arith)))

-- what a step from s to f sweeps over, seen from q
pub swept_turn : (n q s f : Point) → dot n (cross (towards q s) (towards q f)) ≡ neg_ℤ (turn n (towards s f) (towards s q))
swept_turn n q s f = swept_part n.x n.y n.z q.x q.y q.z s.x s.y s.z f.x f.y f.z

-- ---- lengths

none_of : (x : ℤ) → IsLow (x *ℤ x) → x ≡ pos 0
none_of (pos zero) e = refl
none_of (pos (suc n)) e = absurd (true≢false (sym (high_product n n) ∙ e))
none_of (negsuc n) e = absurd (true≢false (sym (high_product n n) ∙ e))

no_square : (x y z : ℤ) → IsLow (x *ℤ x +ℤ y *ℤ y +ℤ z *ℤ z) → x ≡ pos 0
no_square x y z e = none_of x (low_part (x *ℤ x) (y *ℤ y) (z *ℤ z) e (square_part y) (square_part z)) where
  low_part : (a b c : ℤ) → IsLow (a +ℤ b +ℤ c) → int_lt b (pos 0) ≡ false → int_lt c (pos 0) ≡ false → IsLow a
  low_part a b c e f g = grind (arith, ints)

second_first : (a b c : ℤ) → b +ℤ c +ℤ a ≡ a +ℤ b +ℤ c
second_first a b c = omega (arith, ints)

third_first : (a b c : ℤ) → c +ℤ a +ℤ b ≡ a +ℤ b +ℤ c
third_first a b c = omega (arith, ints)

pub has_length : (v : Point) → v ≢ origin → IsHigh (dot v v)
has_length v ne = elim (either_sign (dot v v)) [
  | inr high ↦ high
  | inl low ↦ absurd (ne (same_vector v origin (no_square v.x v.y v.z low)
      (no_square v.y v.z v.x (subst IsLow (sym (second_first (v.x *ℤ v.x) (v.y *ℤ v.y) (v.z *ℤ v.z))) low))
      (no_square v.z v.x v.y (subst IsLow (sym (third_first (v.x *ℤ v.x) (v.y *ℤ v.y) (v.z *ℤ v.z))) low))))
]

no_normal_part : (a b c d e f z : ℤ) → z ≡ pos 0 → a *ℤ (z *ℤ f -ℤ z *ℤ e) +ℤ b *ℤ (z *ℤ d -ℤ z *ℤ f) +ℤ c *ℤ (z *ℤ e -ℤ z *ℤ d) ≡ pos 0
no_normal_part a b c d e f z is = rw (dif-parts a, dif-parts b, dif-parts c, dif-parts d, dif-parts e, dif-parts f, is ∙ number 0, number 0) (simp difs (same_dif _ _ _ _ (omega arith)))

-- where a step turns, it has a length, and the vector up as well
pub step_length : (n d m : Point) → IsHigh (turn n d m) → IsHigh (dot d d)
step_length n d m high = has_length d (λ e. true≢false (sym high ∙ ap (λ v. int_lt (pos 0) (dot v (cross n m))) e ∙ ap (int_lt (pos 0)) (dot_origin (cross n m))))

pub up_length : (n d m : Point) → IsHigh (turn n d m) → IsHigh (dot n n)
up_length n d m high = has_length n (λ e. true≢false (sym high ∙ ap (λ v. int_lt (pos 0) (dot d (cross v m))) e ∙ ap (int_lt (pos 0)) (no_normal_part d.x d.y d.z m.x m.y m.z (pos 0) refl)))

-- ---- factors

pub exchanged_product : (x y : ℤ) → x *ℤ y ≡ y *ℤ x
exchanged_product x y = rw (dif-parts x, dif-parts y) (simp difs (same_dif _ _ _ _ (omega arith)))

pub front_back : (x y : ℤ) → neg_ℤ x *ℤ y ≡ neg_ℤ (x *ℤ y)
front_back x y = exchanged_product (neg_ℤ x) y ∙ product_back y x ∙ ap neg_ℤ (exchanged_product y x)

pub both_back : (x y : ℤ) → x *ℤ y ≡ neg_ℤ x *ℤ neg_ℤ y
both_back x y = sym (product_back (neg_ℤ x) y ∙ ap neg_ℤ (front_back x y) ∙ twice_back (x *ℤ y))

-- ---- a point between two, by weights

abbrev pub weighed : ℕ → ℕ → ℤ → ℤ → ℤ
weighed a b x y = pos a *ℤ x +ℤ pos b *ℤ y

abbrev pub mixed : ℕ → ℕ → Point → Point → Point
mixed a b p q = moved (scaled (pos a) p) (scaled (pos b) q)

dot_mixed : (a b : ℕ) (n p q : Point) → dot n (mixed a b p q) ≡ weighed a b (dot n p) (dot n q)
dot_mixed a b n p q = dot_sum n (scaled (pos a) p) (scaled (pos b) q) ∙ (λ i. dot_scaled (pos a) n p i +ℤ dot_scaled (pos b) n q i)

pub turn_second : (n d m : Point) → turn n d m ≡ dot (cross d n) m
turn_second n d m = sym (triple d n m)

turn_mixed : (a b : ℕ) (n d p q : Point) → turn n d (mixed a b p q) ≡ weighed a b (turn n d p) (turn n d q)
turn_mixed a b n d p q = turn_second n d (mixed a b p q) ∙ dot_mixed a b (cross d n) p q ∙ (λ i. weighed a b (triple d n p i) (triple d n q i))

pub weighed_back : (a b : ℕ) (x y : ℤ) → weighed a b (neg_ℤ x) (neg_ℤ y) ≡ neg_ℤ (weighed a b x y)
weighed_back a b x y = part (pos a) (pos b) x y where
  part : (a b x y : ℤ) → a *ℤ neg_ℤ x +ℤ b *ℤ neg_ℤ y ≡ neg_ℤ (a *ℤ x +ℤ b *ℤ y)
  part a b x y = rw (dif-parts a, dif-parts b, dif-parts x, dif-parts y) (simp (difs, neg-dif) (same_dif _ _ _ _ (omega arith)))

-- from s to f leads an edge of a face that looks along n; m is the direction of the face beyond. The edge is seen from between u and w
pub record Edge (n m u w s f : Point) (a b : ℕ) : Type 0 where
  pub level : dot n (towards s f) ≡ pos 0
  pub beside : dot m (towards s f) ≡ pos 0
  pub bends : IsHigh (turn n (towards s f) m)
  pub on : weighed a b (dot n (towards s u)) (dot n (towards s w)) ≡ pos 0

-- what it sweeps over
abbrev pub swept_over : Point → Point → Point → Point → Point → ℕ → ℕ → ℤ
swept_over n u w s f a b = weighed a b (dot n (cross (towards u s) (towards u f))) (dot n (cross (towards w s) (towards w f)))

module _ (n m u w s f : Point) (a b : ℕ) (g : Edge n m u w s f a b) where
  abbrev d : Point
  d = towards s f

  abbrev e : Point
  e = mixed a b (towards s u) (towards s w)

  abbrev under : ℤ
  under = weighed a b (dot m (towards s u)) (dot m (towards s w))

  swept_is : swept_over n u w s f a b ≡ neg_ℤ (turn n d e)
  swept_is = (λ i. weighed a b (swept_turn n u s f i) (swept_turn n w s f i)) ∙ weighed_back a b (turn n d (towards s u)) (turn n d (towards s w)) ∙ ap neg_ℤ (sym (turn_mixed a b n d (towards s u) (towards s w)))

  told_key : turn n d m *ℤ turn n d e ≡ dot d d *ℤ (under *ℤ dot n n)
  told_key = turn_key n d m (dot_turned d n ∙ g.level) (dot_turned d m ∙ g.beside) e (dot_turned e n ∙ dot_mixed a b n (towards s u) (towards s w) ∙ g.on)
      ∙ ap (λ x. dot d d *ℤ (x *ℤ dot n n)) (dot_turned e m ∙ dot_mixed a b m (towards s u) (towards s w))

  turned_key : turn n d m *ℤ neg_ℤ (turn n d e) ≡ dot d d *ℤ (dot n n *ℤ neg_ℤ under)
  turned_key = product_back (turn n d m) (turn n d e) ∙ ap neg_ℤ (told_key ∙ ap (λ x. dot d d *ℤ x) (exchanged_product under (dot n n))) ∙ sym (product_back (dot d d) (dot n n *ℤ under)) ∙ ap (λ x. dot d d *ℤ x) (sym (product_back (dot n n) under))

  low_back : (x : ℤ) → IsLow x → int_lt (neg_ℤ x) (pos 0) ≡ false
  low_back x e = grind (arith, ints)

  -- where that point isn't above the face beyond, it doesn't go backwards
  pub never_back : IsLow (weighed a b (dot m (towards s u)) (dot m (towards s w))) → int_lt (swept_over n u w s f a b) (pos 0) ≡ false
  never_back low = ap (λ x. int_lt x (pos 0)) swept_is ∙ low_back (turn n d e)
      (low_factor (turn n d m) (turn n d e) g.bends (subst IsLow (sym (told_key ∙ ap (λ x. dot d d *ℤ x) (exchanged_product under (dot n n))))
      (low_product (dot d d) (dot n n *ℤ under) (step_length n d m g.bends) (low_product (dot n n) under (up_length n d m g.bends) low))))

  -- where it is under the face beyond, it goes forwards
  pub leads_on : IsHigh (neg_ℤ (weighed a b (dot m (towards s u)) (dot m (towards s w)))) → IsHigh (swept_over n u w s f a b)
  leads_on high = ap (int_lt (pos 0)) swept_is ∙ high_factor (turn n d m) (neg_ℤ (turn n d e)) g.bends (subst IsHigh (sym turned_key)
      (high_times (dot d d) (dot n n *ℤ neg_ℤ under) (step_length n d m g.bends) (high_times (dot n n) (neg_ℤ under) (up_length n d m g.bends) high)))

-- ---- steps in the plane of a face

pub nothing : (z : ℤ) → IsLow z → IsLow (neg_ℤ z) → z ≡ pos 0
nothing z a b = grind (arith, ints)

-- a product is positive, and one factor isn't negative: then the other is positive
first_high : (x z : ℤ) → IsHigh (x *ℤ z) → IsLow (neg_ℤ z) → IsHigh x
first_high x z high e = elim (either_sign z) [
  | inr more ↦ high_factor z x more (subst IsHigh (exchanged_product x z) high)
  | inl low ↦ absurd (true≢false (sym high ∙ ap (int_lt (pos 0)) (ap (λ y. x *ℤ y) (nothing z low e) ∙ exchanged_product x (pos 0) ∙ no_times x)))
]

pub no_factor : (x y : ℤ) → IsHigh x → x *ℤ y ≡ pos 0 → y ≡ pos 0
no_factor x y high e = nothing y (low_factor x y high (ap (int_lt (pos 0)) e)) (low_factor x (neg_ℤ y) high (ap (int_lt (pos 0)) (product_back x y ∙ ap neg_ℤ e)))

low_both : (x : ℤ) → IsLow x → x ≡ neg_ℤ (neg_ℤ x)
low_both x e = omega (arith, ints)

-- a vector m in the face's plane or beside it, across step d; and what that tells of another step e in the plane
module _ (n d m e : Point) (level : dot n d ≡ pos 0) (beside : dot m d ≡ pos 0) (across : dot n e ≡ pos 0) where
  key : turn n d m *ℤ turn n d e ≡ dot d d *ℤ (dot m e *ℤ dot n n)
  key = turn_key n d m (dot_turned d n ∙ level) (dot_turned d m ∙ beside) e (dot_turned e n ∙ across) ∙ ap (λ x. dot d d *ℤ (x *ℤ dot n n)) (dot_turned e m)

  key_back : turn n d m *ℤ neg_ℤ (turn n d e) ≡ dot d d *ℤ (dot n n *ℤ neg_ℤ (dot m e))
  key_back = product_back (turn n d m) (turn n d e) ∙ ap neg_ℤ (key ∙ ap (λ x. dot d d *ℤ x) (exchanged_product (dot m e) (dot n n))) ∙ sym (product_back (dot d d) (dot n n *ℤ dot m e)) ∙ ap (λ x. dot d d *ℤ x) (sym (product_back (dot n n) (dot m e)))

  -- on the left of the step, or straight on
  pub lies_left : IsHigh (turn n d m) → IsLow (dot m e) → IsLow (turn n d e)
  lies_left bends low = low_factor (turn n d m) (turn n d e) bends (subst IsLow (sym (key ∙ ap (λ x. dot d d *ℤ x) (exchanged_product (dot m e) (dot n n))))
      (low_product (dot d d) (dot n n *ℤ dot m e) (step_length n d m bends) (low_product (dot n n) (dot m e) (up_length n d m bends) low)))

  pub strictly_left : IsHigh (turn n d m) → IsHigh (neg_ℤ (dot m e)) → IsHigh (neg_ℤ (turn n d e))
  strictly_left bends high = high_factor (turn n d m) (neg_ℤ (turn n d e)) bends (subst IsHigh (sym key_back)
      (high_times (dot d d) (dot n n *ℤ neg_ℤ (dot m e)) (step_length n d m bends) (high_times (dot n n) (neg_ℤ (dot m e)) (up_length n d m bends) high)))

  -- and what lies on the left of a step that bends to m lies under m
  pub left_under : IsHigh (turn n d m) → IsLow (turn n d e) → IsLow (dot m e)
  left_under bends left = low_factor (dot n n) (dot m e) (up_length n d m bends) (low_factor (dot d d) (dot n n *ℤ dot m e) (step_length n d m bends)
      (subst IsLow (key ∙ ap (λ x. dot d d *ℤ x) (exchanged_product (dot m e) (dot n n))) (low_product (turn n d m) (turn n d e) bends left)))

  -- straight on leads along the face beyond
  pub straight : IsHigh (turn n d m) → turn n d e ≡ pos 0 → dot m e ≡ pos 0
  straight bends none = no_factor (dot n n) (dot m e) (up_length n d m bends) (no_factor (dot d d) (dot n n *ℤ dot m e) (step_length n d m bends)
      (ap (λ x. dot d d *ℤ x) (exchanged_product (dot n n) (dot m e)) ∙ sym key ∙ ap (λ x. turn n d m *ℤ x) none ∙ exchanged_product (turn n d m) (pos 0) ∙ no_times (turn n d m)))

  -- the other way round: where e lies on the left and under m, the step bends to m
  pub bends_to : IsHigh (dot d d) → IsHigh (dot n n) → IsLow (turn n d e) → IsHigh (neg_ℤ (dot m e)) → IsHigh (turn n d m)
  bends_to some up left under = first_high (turn n d m) (neg_ℤ (turn n d e)) (subst IsHigh (sym key_back) (high_times (dot d d) (dot n n *ℤ neg_ℤ (dot m e)) some (high_times (dot n n) (neg_ℤ (dot m e)) up under)))
      (subst IsLow (low_both (turn n d e) left) left)

-- step a leads up and b leads down from one point of a face whose corners lie on the left of both: then all lie on one line
module _ (n p a b e m k : Point) (a_level : dot n a ≡ pos 0) (b_level : dot n b ≡ pos 0) (e_level : dot n e ≡ pos 0) (a_beside : dot m a ≡ pos 0) (b_beside : dot k b ≡ pos 0) (a_bends : IsHigh (turn n a m)) (b_bends : IsHigh (turn n b k))
    (b_under : IsLow (dot m b)) (a_under : IsLow (dot k a)) (e_under : IsHigh (neg_ℤ (dot m e))) (e_below : IsLow (dot k e)) (up : IsHigh (dot p a)) (down : IsHigh (neg_ℤ (dot p b))) where
  no_turn : turn n a b ≡ pos 0
  no_turn = none (turn n a b) (turn n b a) (lies_left n a m b a_level a_beside b_level a_bends b_under) (lies_left n b k a b_level b_beside a_level b_bends a_under) (turn_back n a b) where
    none : (x y : ℤ) → IsLow x → IsLow y → x ≡ neg_ℤ y → x ≡ pos 0
    none x y low also is = nothing x low (subst IsLow (sym (ap neg_ℤ is ∙ twice_back y)) also)

  along_m : dot m b ≡ pos 0
  along_m = straight n a m b a_level a_beside b_level a_bends no_turn

  b_bends_too : IsHigh (turn n b m)
  b_bends_too = bends_to n b m e b_level along_m e_level (step_length n b k b_bends) (up_length n b k b_bends) (lies_left n b k e b_level b_beside e_level b_bends e_below) e_under

  pub never_one_point : ⊥
  never_one_point =
      let u = cross n m in
      let first : IsHigh (dot p u) = high_factor (dot a a) (dot p u) (step_length n a m a_bends) (subst IsHigh (told_along n a m (dot_turned a n ∙ a_level) (dot_turned a m ∙ a_beside) p) (high_times (turn n a m) (dot p a) a_bends up)) in
      let second : IsHigh (neg_ℤ (dot p u)) = high_factor (dot b b) (neg_ℤ (dot p u)) (step_length n b k b_bends)
      (subst IsHigh (product_back (turn n b m) (dot p b) ∙ ap neg_ℤ (told_along n b m (dot_turned b n ∙ b_level) (dot_turned b m ∙ along_m) p) ∙ sym (product_back (dot b b) (dot p u))) (high_times (turn n b m) (neg_ℤ (dot p b)) b_bends_too down)) in
      never (dot p u) first second where
        never : (x : ℤ) → IsHigh x → IsHigh (neg_ℤ x) → ⊥
        never x a b = absurd (grind (arith, ints))

-- step d is followed by one down from the plane across p, on whose left d starts: then d bends to p
pub towards_back : (s f : Point) → towards f s ≡ negated (towards s f)
towards_back s f = same_vector _ _ (back f.x s.x) (back f.y s.y) (back f.z s.z) where
  back : (x y : ℤ) → y -ℤ x ≡ neg_ℤ (x -ℤ y)
  back x y = omega (arith, ints)

pub dot_negated : (p q : Point) → dot (negated p) q ≡ neg_ℤ (dot p q)
dot_negated p q = dot_turned (negated p) q ∙ dot_back q p ∙ ap neg_ℤ (dot_turned q p)

module _ (n p s f e m : Point) (d_level : dot n (towards s f) ≡ pos 0) (d_on : dot p (towards s f) ≡ pos 0) (e_level : dot n e ≡ pos 0) (e_beside : dot m e ≡ pos 0) (e_bends : IsHigh (turn n e m)) (under : IsLow (dot m (towards f s))) (down : IsHigh (neg_ℤ (dot p e))) (apart : towards s f ≢ origin) where
  back_level : dot n (towards f s) ≡ pos 0
  back_level = ap (dot n) (towards_back s f) ∙ dot_turned n (negated (towards s f)) ∙ dot_negated (towards s f) n ∙ ap neg_ℤ (dot_turned (towards s f) n ∙ d_level)

  left : IsLow (turn n (towards s f) e)
  left = subst IsLow (turn_back n e (towards f s) ∙ ap neg_ℤ (ap (λ v. dot v (cross n e)) (towards_back s f) ∙ dot_negated (towards s f) (cross n e)) ∙ twice_back (turn n (towards s f) e))
      (lies_left n e m (towards f s) e_level e_beside back_level e_bends under)

  pub drawn_bends : IsHigh (turn n (towards s f) p)
  drawn_bends = bends_to n (towards s f) p e d_level d_on e_level (has_length (towards s f) apart) (up_length n e m e_bends) left down

-- ---- a face that lies along another plane

-- an edge between two faces, seen from the one turned over
pub turn_over : (p d n : Point) → turn (negated p) d n ≡ turn n d p
turn_over p d n = dot_turned d (cross (negated p) n) ∙ triple (negated p) n d ∙ dot_negated p (cross n d) ∙ ap neg_ℤ (dot_turned p (cross n d))
    ∙ sym (turn_second n d p ∙ ap (λ v. dot v p) (cross_back n d) ∙ dot_negated (cross n d) p)

-- step d leads along two planes, and some point lies strictly on the left of it: where d doesn't turn from one plane to the other, they are parallel. Then
-- not both a point above the one and a point below it lie under the other
module _ (n d p e u w : Point) (level : dot n d ≡ pos 0) (beside : dot p d ≡ pos 0) (across : dot n e ≡ pos 0) (left : IsHigh (neg_ℤ (turn n d e))) (on : dot p e ≡ pos 0) (some : IsHigh (dot d d)) (up : IsHigh (dot n n)) (way : IsHigh (dot p p))
    (u_under : IsLow (dot n u)) (w_under : IsLow (dot n w)) (u_above : IsHigh (dot p u)) (w_below : IsHigh (neg_ℤ (dot p w))) where
  none_of_product : (x y : ℤ) → IsHigh (neg_ℤ y) → x *ℤ y ≡ pos 0 → x ≡ pos 0
  none_of_product x y high is = nothing x
      (low_factor (neg_ℤ y) x high (ap (int_lt (pos 0)) (exchanged_product (neg_ℤ y) x ∙ product_back x y ∙ ap neg_ℤ is)))
      (low_factor (neg_ℤ y) (neg_ℤ x) high (ap (int_lt (pos 0)) (product_back (neg_ℤ y) x ∙ ap neg_ℤ (exchanged_product (neg_ℤ y) x ∙ product_back x y ∙ ap neg_ℤ is))))

  zero_times : (x y : ℤ) → x *ℤ (pos 0 *ℤ y) ≡ pos 0
  zero_times x y = ap (λ z. x *ℤ z) (no_times y) ∙ exchanged_product x (pos 0) ∙ no_times x

  no_turn_here : turn n d p ≡ pos 0
  no_turn_here = none_of_product (turn n d p) (turn n d e) left (key n d p e level beside across ∙ ap (λ x. dot d d *ℤ (x *ℤ dot n n)) on ∙ zero_times (dot d d) (dot n n))

  gone : (x y : ℤ) → dot d d *ℤ x ≡ turn n d p *ℤ y → x ≡ pos 0
  gone x y is = no_factor (dot d d) x some (is ∙ ap (λ z. z *ℤ y) no_turn_here ∙ no_times y)

  no_cross : cross n p ≡ origin
  no_cross = let same = sym (parallel n d p (dot_turned d n ∙ level) (dot_turned d p ∙ beside)) in let v = cross n p in
      same_vector v origin (gone v.x d.x (ap (λ q. q.x) same)) (gone v.y d.y (ap (λ q. q.y) same)) (gone v.z d.z (ap (λ q. q.z) same))

  both_ways : scaled (dot p p) n ≡ scaled (dot p n) p
  both_ways = same_end (scaled (dot p n) p) (scaled (dot p p) n) (sym (cross_across p n p (dot p p) (dot p n) refl refl) ∙ ap (cross p) no_cross ∙ cross_nothing p)

  told_by : (v : Point) → dot p p *ℤ dot n v ≡ dot p n *ℤ dot p v
  told_by v = ap (λ x. dot p p *ℤ x) (dot_turned n v) ∙ sym (dot_scaled (dot p p) v n) ∙ ap (dot v) both_ways ∙ dot_scaled (dot p n) v p ∙ ap (λ x. dot p n *ℤ x) (dot_turned v p)

  pub never_flat : ⊥
  never_flat =
      let low : IsLow (dot p n) = low_factor (dot p u) (dot p n) u_above (subst IsLow (told_by u ∙ exchanged_product (dot p n) (dot p u)) (low_product (dot p p) (dot n u) way u_under)) in
      let high : IsLow (neg_ℤ (dot p n)) = low_factor (neg_ℤ (dot p w)) (neg_ℤ (dot p n)) w_below
      (subst IsLow (told_by w ∙ exchanged_product (dot p n) (dot p w) ∙ both_back (dot p w) (dot p n)) (low_product (dot p p) (dot n w) way w_under)) in
      let none : dot p n ≡ pos 0 = nothing (dot p n) low high in
      true≢false (sym (high_times (dot p p) (dot n n) way up) ∙ ap (int_lt (pos 0)) (told_by n ∙ ap (λ x. x *ℤ dot p n) none ∙ no_times (dot p n)))

-- ---- the same, told along each of the two faces, and from the mate

pub turn_first : (n d m : Point) → turn n d m ≡ dot (cross m d) n
turn_first n d m = turn_second n d m ∙ dot_turned (cross d n) m ∙ sym (triple m d n)

pub turn_mate : (n m s f : Point) → turn m (towards f s) n ≡ turn n (towards s f) m
turn_mate n m s f = let v = towards s f in
    ap (λ d. turn m d n) (towards_back s f) ∙ dot_negated v (cross m n) ∙ ap neg_ℤ (ap (dot v) (cross_back n m) ∙ dot_back v (cross n m)) ∙ twice_back (turn n v m)
