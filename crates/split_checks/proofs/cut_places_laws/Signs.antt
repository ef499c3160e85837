-- The signs of numbers tell on which side of a plane points lie.
use Rattle.split_checks.proofs.Prelude.{◌≡◌, ℤ, pos, negsuc, Bool, false, cond, not, ◌&&◌, refl, ap, true≢false, int_lt, int_eq, arith, Point, Plane, Sign, Below, On, Above, height, sign_of, opposite, same_sign, opposite_signs, lies}
use lib.Dec.{leb-suc-zero}

told_below : (a b : Bool) → same_sign (cond a Below (cond b Above On)) Below ≡ a
told_below a b = grind arith

told_above : (a b : Bool) → same_sign (cond a Below (cond b Above On)) Above ≡ not a && b
told_above a b = grind arith

told_on : (a b : Bool) → same_sign (cond a Below (cond b Above On)) On ≡ not a && not b
told_on a b = grind arith

above_is : (n : ℤ) → not (int_lt n (pos 0)) && int_lt (pos 0) n ≡ int_lt (pos 0) n
above_is (pos n) = ap (λ b. not b && int_lt (pos 0) (pos n)) (leb-suc-zero n)
above_is (negsuc n) = refl

on_is : (n : ℤ) → not (int_lt n (pos 0)) && not (int_lt (pos 0) n) ≡ int_eq n (pos 0)
on_is n = grind arith

one_side : (n : ℤ) → int_lt n (pos 0) && int_lt (pos 0) n ≡ false
one_side (pos n) = ap (λ b. b && int_lt (pos 0) (pos n)) (leb-suc-zero n)
one_side (negsuc n) = refl

pub sign_lies : (side : Sign) (p : Plane) (q : Point) → same_sign (sign_of (height p q)) side ≡ lies side p q
sign_lies side p q = grind (arith, told_below, told_on, on_is, told_above, above_is)

pub signs_opposite : (m n : ℤ) → opposite_signs (sign_of m) (sign_of n) ≡ opposite m n
signs_opposite m n = grind (arith, one_side, true≢false)
