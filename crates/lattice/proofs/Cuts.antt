-- Where a segment meets a plane: how great the numbers are.
use Rattle.lattice.proofs.Prelude.{◌≡◌, ℕ, ◌*◌, ◌≤◌, true, cond, ℤ, pos, Some, None, refl, sym, ap, subst, ◌∙◌, arith, ◌+ℤ◌, ◌-ℤ◌, ◌*ℤ◌, FitsSigned, unsigned_abs, int_div, int_rem, int_eq, cast_signed, cast_unsigned, to_z-of_z, fits_signed_from_abs, quot_is, Point, Plane, is_coordinate, IsInRange, IsWithin, IsCutPlane, height, opposite, whole_quotient}
use lib.Signed.{mag_rem}
use mir.Syntax.{w64, w128}
use Rattle.lattice.proofs.Crossings.{cut_within, quotient_within, within_coordinate}
use Rattle.lattice.proofs.Magnitudes.{coordinates, coordinate_within, product_within, sum_within, fits, held, held_short, held_is, coordinate_is, IsExactWithin, difference_told}

pub height_within : (s : Plane) (p : Point) → IsCutPlane s → IsInRange p → IsWithin 6000000000000000000 (height s p)
height_within s p w r =
    let ks = coordinates p r in
    let x = product_within s.a p.x _ _ 1000000000000000000 w.0.0 (coordinate_within p.x ks.0) refl in
    let y = product_within s.b p.y _ _ 1000000000000000000 w.0.1 (coordinate_within p.y ks.1) refl in
    let z = product_within s.c p.z _ _ 1000000000000000000 w.0.2 (coordinate_within p.z ks.2) refl in
    let xy = sum_within (s.a *ℤ p.x) (s.b *ℤ p.y) _ _ 2000000000000000000 x y (omega arith) in
    let xyz = sum_within (s.a *ℤ p.x +ℤ s.b *ℤ p.y) (s.c *ℤ p.z) _ _ 3000000000000000000 xy z (omega arith) in
    sum_within (s.a *ℤ p.x +ℤ s.b *ℤ p.y +ℤ s.c *ℤ p.z) s.d _ _ 6000000000000000000 xyz w.1 (omega arith)

zero_bits : (z : ℤ) → FitsSigned w128 z → cast_unsigned w128 z ≡ 0 → int_eq z (pos 0) ≡ true
zero_bits z f e = let h : z ≡ pos 0 = sym (held_is z f) ∙ ap (cast_signed w128) e in ap (λ y. int_eq y (pos 0)) h

module _ (m w : ℤ) (fm : FitsSigned w128 m) (fw : FitsSigned w128 w) (range : unsigned_abs m ≤ 1000000000 * unsigned_abs w) where
  quotient_fits : FitsSigned w128 (int_div m w)
  quotient_fits = fits _ _ (quotient_within m w range) (omega arith)

  quotient_held : held (int_div (held m) (held w)) ≡ int_div m w
  quotient_held = quot_is w128 m w fm fw quotient_fits

  pub quotient_short : FitsSigned w64 (held (int_div (held m) (held w)))
  quotient_short = subst (FitsSigned w64) (sym quotient_held) (fits_signed_from_abs w64 (int_div m w) (omega (arith, quotient_within m w range)))

  pub quotient_is : held_short (held (int_div (held m) (held w))) ≡ int_div m w
  quotient_is = ap held_short quotient_held ∙ to_z-of_z w64 (int_div m w) (fits_signed_from_abs w64 (int_div m w) (omega (arith, quotient_within m w range)))

  pub quotient_coordinate : is_coordinate (held_short (held (int_div (held m) (held w)))) ≡ true
  quotient_coordinate = ap is_coordinate quotient_is ∙ within_coordinate (int_div m w) (quotient_within m w range)

  remainder_fits : FitsSigned w128 (int_rem m w)
  remainder_fits = record { sfits = omega (arith, mag_rem m w, fm.sfits) }

  remainder_bits : (n : ℕ) → cast_unsigned w128 (int_rem (held m) (held w)) ≡ n → cast_unsigned w128 (int_rem m w) ≡ n
  remainder_bits n e = (λ i. cast_unsigned w128 (int_rem (sym (held_is m fm) i) (sym (held_is w fw) i))) ∙ e

  pub whole_told : cast_unsigned w128 (int_rem (held m) (held w)) ≡ 0 → Some (held_short (held (int_div (held m) (held w)))) ≡ whole_quotient m w
  whole_told e = ap Some quotient_is ∙ sym (ap (λ b. cond b (Some (int_div m w)) None) (zero_bits (int_rem m w) remainder_fits (remainder_bits 0 e)))

-- the difference of two heights
pub gap_told : (m n : ℤ) → IsWithin 6000000000000000000 m → IsWithin 6000000000000000000 n → IsExactWithin 12000000000000000000 (held m -ℤ held n) (m -ℤ n)
gap_told m n wm wn = difference_told _ _ _ m n m n refl refl wm wn (omega arith) (omega arith)

-- the multiple that the code makes is r
module _ (to from m n r : ℤ) (kt : is_coordinate to ≡ true) (kf : is_coordinate from ≡ true) (wm : IsWithin 6000000000000000000 m) (wn : IsWithin 6000000000000000000 n)
    (o : opposite m n ≡ true) (wr : IsWithin 20000000000000000000000000000 r) (is : r ≡ held_short to *ℤ held m -ℤ held_short from *ℤ held n) where
  multiple_is : r ≡ to *ℤ m -ℤ from *ℤ n
  multiple_is = is ∙ (λ i. coordinate_is to kt i *ℤ held_is m (fits _ _ wm (omega arith)) i -ℤ coordinate_is from kf i *ℤ held_is n (fits _ _ wn (omega arith)) i)

  multiple_held : held r ≡ to *ℤ m -ℤ from *ℤ n
  multiple_held = held_is r (fits _ _ wr (omega arith)) ∙ multiple_is

  pub multiple_range : unsigned_abs (held r) ≤ 1000000000 * unsigned_abs (held (held m -ℤ held n))
  multiple_range = subst (λ z. unsigned_abs z ≤ 1000000000 * unsigned_abs (held (held m -ℤ held n))) (sym multiple_held)
      (subst (λ z. unsigned_abs (to *ℤ m -ℤ from *ℤ n) ≤ 1000000000 * unsigned_abs z) (sym (gap_told m n wm wn).kept) (cut_within to from m n (coordinate_within to kt) (coordinate_within from kf) o))

  pub multiple_quotient : whole_quotient (held r) (held (held m -ℤ held n)) ≡ whole_quotient (to *ℤ m -ℤ from *ℤ n) (m -ℤ n)
  multiple_quotient = λ i. whole_quotient (multiple_held i) ((gap_told m n wm wn).kept i)
