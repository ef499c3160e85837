-- Where a segment crosses a plane: heights of opposite signs, the same point from either end, and that it is in range.
use Rattle.lattice.proofs.Prelude.{◌≡◌, ◌≢◌, ℕ, zero, suc, ◌+◌, ◌*◌, ◌/◌, ◌≤◌, true, false, ◌&&◌, ℤ, pos, negsuc, refl, sym, ap, subst, ◌∙◌, arith, ◌-ℤ◌, ◌*ℤ◌, neg_ℤ, unsigned_abs, int_div, int_eq, ints, div-le_of_le-mul, Point, Plane, is_coordinate, IsInRange, IsWithin, opposite, are_opposite, same_point, cut_between}
use Rattle.lattice.proofs.Magnitudes.{coordinates, coordinate_within, product_within}

-- ---- signs

pub opposite_turned : (m n : ℤ) → opposite m n ≡ opposite n m
opposite_turned m n = grind (arith, ints)

pub level_on : (m : ℤ) → m ≡ pos 0 → int_eq m (pos 0) ≡ true
level_on m e = grind (arith, ints)

pub level_first : (m n : ℤ) → m ≡ pos 0 → opposite m n ≡ false
level_first m n e = grind (arith, ints)

pub level_second : (m n : ℤ) → n ≡ pos 0 → opposite m n ≡ false
level_second m n e = grind (arith, ints)

pub opposite_back : (m n : ℤ) → opposite m n ≡ true → opposite n m ≡ true
opposite_back m n e = grind (arith, ints)

pub not_level : (m n : ℤ) → opposite m n ≡ true → int_eq m (pos 0) ≡ false
not_level m n e = grind (arith, ints)

pub level_is : (n : ℤ) → int_eq n (pos 0) ≡ true → n ≡ pos 0
level_is n e = grind (arith, ints)

pub opposite_apart : (m n : ℤ) → opposite m n ≡ true → m -ℤ n ≢ pos 0
opposite_apart m n e z = grind (arith, ints)

pub same_int : (n : ℤ) → int_eq n n ≡ true
same_int n = grind (arith, ints)

pub same_as : (p q : Point) → p ≡ q → same_point p q ≡ true
same_as p q e = ap (same_point p) (sym e) ∙ (λ i. same_int p.x i && same_int p.y i && same_int p.z i)

-- ---- the same from either end

nothing_divided : (n : ℕ) → 0 / suc n ≡ 0
nothing_divided n = let l : 0 / suc n ≤ 0 = div-le_of_le-mul (suc n) (omega arith) in omega arith

turned_quotient : (m w : ℤ) → w ≢ pos 0 → int_div (neg_ℤ m) (neg_ℤ w) ≡ int_div m w
turned_quotient m (pos zero) ne = absurd (ne refl)
turned_quotient (pos zero) (pos (suc b)) ne = ap (λ k. neg_ℤ (pos k)) (nothing_divided b) ∙ sym (ap pos (nothing_divided b))
turned_quotient (pos (suc a)) (pos (suc b)) ne = refl
turned_quotient (negsuc a) (pos (suc b)) ne = refl
turned_quotient (pos zero) (negsuc b) ne = ap pos (nothing_divided b) ∙ sym (ap (λ k. neg_ℤ (pos k)) (nothing_divided b))
turned_quotient (pos (suc a)) (negsuc b) ne = refl
turned_quotient (negsuc a) (negsuc b) ne = refl

pub turned_difference : (a b : ℤ) → b -ℤ a ≡ neg_ℤ (a -ℤ b)
turned_difference a b = omega (arith, ints)

back_quotient : (p q m n : ℤ) → m -ℤ n ≢ pos 0 → int_div (p *ℤ n -ℤ q *ℤ m) (n -ℤ m) ≡ int_div (q *ℤ m -ℤ p *ℤ n) (m -ℤ n)
back_quotient p q m n ne = (λ i. int_div (turned_difference (q *ℤ m) (p *ℤ n) i) (turned_difference m n i)) ∙ turned_quotient (q *ℤ m -ℤ p *ℤ n) (m -ℤ n) ne

pub cut_back : (s : Plane) (p q : Point) → are_opposite s p q ≡ true → cut_between s q p ≡ cut_between s p q
cut_back s p q o = grind (arith, back_quotient, p.x, q.x, p.y, q.y, opposite_apart, p.z, q.z)

-- ---- in range

turned_size : (n : ℕ) → unsigned_abs (neg_ℤ (pos n)) ≡ n
turned_size zero = refl
turned_size (suc n) = refl

quotient_size : (m w : ℤ) → unsigned_abs (int_div m w) ≡ unsigned_abs m / unsigned_abs w
quotient_size (pos a) (pos b) = refl
quotient_size (pos a) (negsuc b) = turned_size (a / suc b)
quotient_size (negsuc a) (pos b) = turned_size (suc a / b)
quotient_size (negsuc a) (negsuc b) = refl

-- numbers of opposite signs are as far apart as both magnitudes together
far_apart : (m n : ℤ) → opposite m n ≡ true → unsigned_abs (m -ℤ n) ≡ unsigned_abs m + unsigned_abs n
far_apart m n e = grind (arith, ints)

pub cut_within : (to from m n : ℤ) → IsWithin 1000000000 to → IsWithin 1000000000 from → opposite m n ≡ true → unsigned_abs (to *ℤ m -ℤ from *ℤ n) ≤ 1000000000 * unsigned_abs (m -ℤ n)
cut_within to from m n wt wf o =
    grind (arith, product_within to m 1000000000 (unsigned_abs m), product_within from n 1000000000 (unsigned_abs n), ints, far_apart m n o)

pub quotient_within : (m w : ℤ) → unsigned_abs m ≤ 1000000000 * unsigned_abs w → IsWithin 1000000000 (int_div m w)
quotient_within m w h = subst (λ n. n ≤ 1000000000) (sym (quotient_size m w)) (div-le_of_le-mul (unsigned_abs w) (omega (arith, h)))

pub within_coordinate : (x : ℤ) → IsWithin 1000000000 x → is_coordinate x ≡ true
within_coordinate x h = grind (arith, ints)

cut_coordinate : (p q m n : ℤ) → is_coordinate p ≡ true → is_coordinate q ≡ true → opposite m n ≡ true → is_coordinate (int_div (q *ℤ m -ℤ p *ℤ n) (m -ℤ n)) ≡ true
cut_coordinate p q m n cp cq o = grind (arith, within_coordinate, quotient_within, cut_within, coordinate_within)

pub cut_fits : (s : Plane) (p q : Point) → IsInRange p → IsInRange q → are_opposite s p q ≡ true → IsInRange (cut_between s p q)
cut_fits s p q rp rq o = grind (arith, cut_coordinate, p.x, q.x, p.y, q.y, coordinates, p.z, q.z)
