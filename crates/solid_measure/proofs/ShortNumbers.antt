-- Sums and products in 64 bits are exact where they fit.
use Rattle.solid_measure.proofs.Prelude.{◌≡◌, ℕ, ◌+◌, ◌≤◌, true, ℤ, refl, sym, ap, subst, ◌∙◌, arith, ◌+ℤ◌, ◌-ℤ◌, ◌*ℤ◌, FitsSigned, is_coordinate, IsWithin, coordinate_held, coordinate_is, coordinate_within, held, held_short, minor_of, minor_within, product_within, short_fits, short_is, sum_told, sum_within}
use Rattle.euler_operators.proofs.Common.{minor_short as short_minor}
use mir.Syntax.{w64}

-- the code's product of a coefficient and a coordinate
module _ (a x : ℤ) (wa : IsWithin 2000000000 a) (kx : is_coordinate x ≡ true) where
  held_product : held_short a *ℤ held_short x ≡ a *ℤ x
  held_product = λ i. short_is _ a wa (omega arith) i *ℤ coordinate_is x kx i

  slope_within : IsWithin 2000000000000000000 (a *ℤ x)
  slope_within = product_within a x _ _ _ wa (coordinate_within x kx) refl

  pub scaled_is : held_short (held_short a *ℤ held_short x) ≡ a *ℤ x
  scaled_is = ap held_short held_product ∙ short_is _ (a *ℤ x) slope_within (omega arith)

  pub scaled_within : IsWithin 2000000000000000000 (held_short (held_short a *ℤ held_short x))
  scaled_within = subst (IsWithin 2000000000000000000) (sym scaled_is) slope_within

-- a number as 64 bits hold it, at most m in magnitude
pub record Short (m : ℕ) (p a : ℤ) : Type 0 where
  pub is : p ≡ a
  pub within : IsWithin m a

pub held_as : (m : ℕ) (p a : ℤ) → p ≡ a → IsWithin m a → m ≤ 9000000000000000000 → Short m (held_short p) a
held_as m p a e w l = record { is = ap held_short e ∙ short_is m a w l; within = w }

pub minor_short : (a b c d : ℤ) → is_coordinate a ≡ true → is_coordinate b ≡ true → is_coordinate c ≡ true → is_coordinate d ≡ true →
    Short 2000000000000000000 (held_short (held_short (held_short a *ℤ held_short d) -ℤ held_short (held_short b *ℤ held_short c))) (a *ℤ d -ℤ b *ℤ c)
minor_short a b c d ka kb kc kd = record { is = short_minor a b c d ka kb kc kd; within = minor_within a b c d ka kb kc kd }

-- a sum of such numbers
module _ (m n k : ℕ) (p q a b : ℤ) (x : Short m p a) (y : Short n q b) (room : m + n ≤ k) (least : k ≤ 9000000000000000000) where
  all_within : IsWithin k (a +ℤ b)
  all_within = sum_within a b m n k x.within y.within room

  pub sum_fits : FitsSigned w64 (p +ℤ q)
  sum_fits = subst (FitsSigned w64) (λ i. sym x.is i +ℤ sym y.is i) (short_fits k (a +ℤ b) all_within least)

  pub sum_short : Short k (held_short (p +ℤ q)) (a +ℤ b)
  sum_short = held_as k (p +ℤ q) (a +ℤ b) (λ i. x.is i +ℤ y.is i) all_within least

-- a number of a cross product added to one of at most three: what that asks, and what it makes
pub can_add : (n a b c d : ℤ) → IsWithin 6000000000000000000 n → is_coordinate a ≡ true → is_coordinate b ≡ true → is_coordinate c ≡ true → is_coordinate d ≡ true →
    record {
      number : IsWithin 6000000000000000000 (held_short n);
      a : is_coordinate (held_short a) ≡ true;
      b : is_coordinate (held_short b) ≡ true;
      c : is_coordinate (held_short c) ≡ true;
      d : is_coordinate (held_short d) ≡ true;
    }
can_add n a b c d w ka kb kc kd =
    let s = subst (IsWithin 6000000000000000000) (sym (short_is _ n w (omega arith))) w in
    record { number = s; a = coordinate_held a ka; b = coordinate_held b kb; c = coordinate_held c kc; d = coordinate_held d kd }

pub crossed_short : (n a b c d r : ℤ) → IsWithin 6000000000000000000 n → is_coordinate a ≡ true → is_coordinate b ≡ true → is_coordinate c ≡ true → is_coordinate d ≡ true →
    r ≡ held_short n +ℤ (held_short a *ℤ held_short d -ℤ held_short b *ℤ held_short c) → held_short r ≡ n +ℤ (a *ℤ d -ℤ b *ℤ c)
crossed_short n a b c d r w ka kb kc kd e =
    (held_as 8000000000000000000 r (n +ℤ (a *ℤ d -ℤ b *ℤ c)) (e ∙ (λ i. short_is _ n w (omega arith) i +ℤ minor_of _ a b c d ka kb kc kd refl i))
    (sum_within n (a *ℤ d -ℤ b *ℤ c) _ _ _ w (minor_within a b c d ka kb kc kd) (omega arith)) (omega arith)).is

pub scaled_short : (a x r : ℤ) → IsWithin 2000000000 a → is_coordinate x ≡ true → r ≡ held_short a *ℤ held_short x → Short 2000000000000000000 (held_short r) (a *ℤ x)
scaled_short a x r wa kx e = held_as _ r (a *ℤ x) (e ∙ held_product a x wa kx) (slope_within a x wa kx) (omega arith)

-- a number of 128 bits and one of 64
pub widened_is : (a b r : ℤ) → IsWithin 10000000000000000000000000 a → IsWithin 8000000000000000000 b → r ≡ held_short b → held (held a +ℤ held r) ≡ a +ℤ b
widened_is a b r wa wb e =
    let is : r ≡ b = e ∙ short_is _ b wb (omega arith) in
    (sum_told _ _ 20000000000000000000000000 a r wa (subst (IsWithin 8000000000000000000) (sym is) wb) (omega arith) (omega arith)).kept ∙ ap (λ z. a +ℤ z) is
