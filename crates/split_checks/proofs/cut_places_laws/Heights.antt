-- The height of a point over a plane along which points are cut, in 64 bits.
use Rattle.split_checks.proofs.Prelude.{◌≡◌, ℕ, ◌≤◌, true, ℤ, refl, sym, subst, arith, ◌+ℤ◌, ◌*ℤ◌, FitsSigned, to_z-of_z, fits_signed_from_abs, Point, Plane, IsInRange, is_coordinate, IsWithin, IsCutPlane, height, coordinates, coordinate_is, coordinate_within, fits, held, held_is, held_short, product_within, sum_within}
use mir.Syntax.{w64}

-- what the code makes fits 64 bits, and is exact
pub record Short (z y : ℤ) : Type 0 where
  pub fits : FitsSigned w64 z
  pub kept : held_short z ≡ y

short : (m : ℕ) (z y : ℤ) → z ≡ y → IsWithin m y → m ≤ 9000000000000000000 → Short z y
short m z y e w l = grind (arith, fits_signed_from_abs, fits, held_short, to_z-of_z)

pub number_held : (n : ℤ) → IsWithin 1000000000 n → IsWithin 1000000000 (held n)
number_held n number = subst (IsWithin 1000000000) (sym (held_is n (fits _ n number (omega arith)))) number

-- a number of the plane times a coordinate
module _ (n x : ℤ) (number : IsWithin 1000000000 n) (coordinate : is_coordinate x ≡ true) where
  scaled_within : IsWithin 1000000000000000000 (n *ℤ x)
  scaled_within = product_within n x _ _ _ number (coordinate_within x coordinate) refl

  pub number_told : Short (held n) n
  number_told = short _ _ _ (held_is n (fits _ n number (omega arith))) number (omega arith)

  pub scaled_told : Short (held_short (held n) *ℤ held_short x) (n *ℤ x)
  scaled_told = short _ _ _ (λ i. number_told.kept i *ℤ coordinate_is x coordinate i) scaled_within (omega arith)

  pub scaled_kept_within : IsWithin 1000000000000000000 (held_short (held_short (held n) *ℤ held_short x))
  scaled_kept_within = subst (IsWithin 1000000000000000000) (sym scaled_told.kept) scaled_within

module _ (a b c : ℤ) (within_a : IsWithin 1000000000000000000 a) (within_b : IsWithin 1000000000000000000 b) where
  level_within : IsWithin 2000000000000000000 (a +ℤ b)
  level_within = sum_within a b _ _ _ within_a within_b (omega arith)

  pub level_told : Short (held_short a +ℤ held_short b) (a +ℤ b)
  level_told = short _ _ _ (λ i. (short _ a a (λ j. a) within_a (omega arith)).kept i +ℤ (short _ b b (λ j. b) within_b (omega arith)).kept i) level_within (omega arith)

  module _ (within_c : IsWithin 1000000000000000000 c) where
    rise_within : IsWithin 3000000000000000000 (a +ℤ b +ℤ c)
    rise_within = sum_within (a +ℤ b) c _ _ _ level_within within_c (omega arith)

    pub rise_told : Short (held_short (held_short a +ℤ held_short b) +ℤ held_short c) (a +ℤ b +ℤ c)
    rise_told = short _ _ _ (λ i. level_told.kept i +ℤ (short _ c c (λ j. c) within_c (omega arith)).kept i) rise_within (omega arith)

    module _ (p : Plane) (plane : IsCutPlane p) where
      pub offset_told : Short (held p.d) p.d
      offset_told = short _ _ _ (held_is p.d (fits _ p.d plane.1 (omega arith))) plane.1 (omega arith)

      pub whole_told : Short (held_short (held_short (held_short a +ℤ held_short b) +ℤ held_short c) +ℤ held_short (held p.d)) (a +ℤ b +ℤ c +ℤ p.d)
      whole_told = short _ _ _ (λ i. rise_told.kept i +ℤ offset_told.kept i) (sum_within (a +ℤ b +ℤ c) p.d _ _ 6000000000000000000 rise_within plane.1 (omega arith)) (omega arith)

      pub height_told : (q : Point) → IsInRange q → a ≡ held p.a *ℤ held_short q.x → b ≡ held p.b *ℤ held_short q.y → c ≡ held p.c *ℤ held_short q.z
          → held_short (held_short (held_short (held_short a +ℤ held_short b) +ℤ held_short c) +ℤ held_short (held p.d)) ≡ height p q
      height_told q range is_a is_b is_c = grind (arith, coordinates, held_is, fits, coordinate_is, whole_told)
