-- A multiple of a number, divided by that number.
use Rattle.lattice.proofs.Prelude.{◌≡◌, ◌≢◌, ℕ, ◌*◌, ◌%◌, ◌/◌, cond, ℤ, pos, negsuc, Some, None, refl, sym, ap, ◌∙◌, arith, ◌-ℤ◌, ◌*ℤ◌, neg_ℤ, zero, suc, unsigned_abs, int_div, int_rem, int_eq, unsigned_abs-mul, mul-mod_left, mul-div_cancel, zero-div, whole_quotient}
use Rattle.lattice.proofs.Integers.{dif, dif-parts, difs, same_dif}

nothing_left : (z w : ℤ) → unsigned_abs z % unsigned_abs w ≡ 0 → int_rem z w ≡ pos 0
nothing_left (pos a) w e = ap pos e
nothing_left (negsuc a) w e = ap (λ n. neg_ℤ (pos n)) e

multiple_left : (x w : ℤ) → int_rem (x *ℤ w) w ≡ pos 0
multiple_left x w = nothing_left (x *ℤ w) w (ap (λ n. n % unsigned_abs w) (unsigned_abs-mul x w) ∙ mul-mod_left (unsigned_abs x) (unsigned_abs w))

both_negative : (n b : ℕ) → int_div (neg_ℤ (pos n)) (negsuc b) ≡ pos (n / suc b)
both_negative zero b = ap (λ q. neg_ℤ (pos q)) (zero-div (suc b)) ∙ sym (ap pos (zero-div (suc b)))
both_negative (suc n) b = refl

first_negative : (n b : ℕ) → int_div (neg_ℤ (pos n)) (pos b) ≡ neg_ℤ (pos (n / b))
first_negative zero b = ap pos (zero-div b) ∙ sym (ap (λ q. neg_ℤ (pos q)) (zero-div b))
first_negative (suc n) b = refl

multiple_over : (x w : ℤ) → w ≢ pos 0 → int_div (x *ℤ w) w ≡ x
multiple_over x (pos zero) ne = absurd (ne refl)
multiple_over (pos a) (pos (suc b)) ne = ap pos (mul-div_cancel a (omega arith))
multiple_over (pos a) (negsuc b) ne = both_negative (a * suc b) b ∙ ap pos (mul-div_cancel a (omega arith))
multiple_over (negsuc a) (pos (suc b)) ne = first_negative (suc a * suc b) (suc b) ∙ ap (λ q. neg_ℤ (pos q)) (mul-div_cancel (suc a) (omega arith))
multiple_over (negsuc a) (negsuc b) ne = ap (λ q. neg_ℤ (pos q)) (mul-div_cancel (suc a) (omega arith))

multiple_quotient : (x w : ℤ) → w ≢ pos 0 → whole_quotient (x *ℤ w) w ≡ Some x
multiple_quotient x w ne = (λ i. cond (int_eq (multiple_left x w i) (pos 0)) (Some (multiple_over x w ne i)) None)

factor_dif : (x y m n u v : ℕ) → dif x y *ℤ dif m n -ℤ dif x y *ℤ dif u v ≡ dif x y *ℤ (dif m n -ℤ dif u v)
factor_dif x y m n u v = simp difs (same_dif _ _ _ _ (omega arith))

common_factor : (x m n : ℤ) → x *ℤ m -ℤ x *ℤ n ≡ x *ℤ (m -ℤ n)
common_factor x m n = rw (dif-parts x, dif-parts m, dif-parts n) (factor_dif _ _ _ _ _ _)

-- the ends have one coordinate, which the point between them has too
pub level_quotient : (x y m n : ℤ) → x ≡ y → m -ℤ n ≢ pos 0 → whole_quotient (y *ℤ m -ℤ x *ℤ n) (m -ℤ n) ≡ Some x
level_quotient x y m n e ne = (λ i. whole_quotient (sym e i *ℤ m -ℤ x *ℤ n) (m -ℤ n)) ∙ ap (λ z. whole_quotient z (m -ℤ n)) (common_factor x m n) ∙ multiple_quotient x (m -ℤ n) ne
