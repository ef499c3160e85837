-- How great sums and products are, and that the code's are exact.
use Rattle.lattice.proofs.Prelude.{◌≡◌, ℕ, ◌+◌, ◌*◌, ◌≤◌, true, ℤ, refl, sym, ap, subst, ◌∙◌, arith, ◌+ℤ◌, ◌-ℤ◌, ◌*ℤ◌, ◌&&◌, FitsSigned, unsigned_abs, cast_signed, cast_unsigned, ints, to_z-of_z, unsigned_abs-mul, fits_signed_from_abs, mul-le-mul, Point, is_coordinate, IsInRange, IsWithin, IsVectorWithin, is_offset}
use Rattle.std.proofs.lemmas.Bool.{and_parts}
use mir.Syntax.{w32, w64, w128}

pub coordinate_within : (x : ℤ) → is_coordinate x ≡ true → IsWithin 1000000000 x
coordinate_within x e = grind (arith, ints)

pub offset_within : (d : ℤ) → is_offset d ≡ true → IsWithin 3000000000000000000 d
offset_within d e = grind (arith, ints)

pub vector_within : (v : Point) (m n : ℕ) → IsVectorWithin m v → m ≤ n → IsVectorWithin n v
vector_within v m n w l = (omega (arith, w.0, l), omega (arith, w.1, l), omega (arith, w.2, l))

-- the coordinates of a point in range
pub coordinates : (p : Point) → IsInRange p → (is_coordinate p.x ≡ true) × (is_coordinate p.y ≡ true) × (is_coordinate p.z ≡ true)
coordinates p r = let xs = and_parts (is_coordinate p.x) (is_coordinate p.y && is_coordinate p.z) r in let ys = and_parts (is_coordinate p.y) (is_coordinate p.z) xs.1 in (xs.0, ys.0, ys.1)

pub product_within : (a b : ℤ) (m n k : ℕ) → IsWithin m a → IsWithin n b → m * n ≡ k → IsWithin k (a *ℤ b)
product_within a b m n k h g e = subst (λ x. x ≤ k) (sym (unsigned_abs-mul a b)) (subst (λ x. unsigned_abs a * unsigned_abs b ≤ x) e (mul-le-mul h g))

pub sum_within : (a b : ℤ) (m n k : ℕ) → IsWithin m a → IsWithin n b → m + n ≤ k → IsWithin k (a +ℤ b)
sum_within a b m n k h g e = omega (arith, ints, h, g, e)

pub difference_within : (a b : ℤ) (m n k : ℕ) → IsWithin m a → IsWithin n b → m + n ≤ k → IsWithin k (a -ℤ b)
difference_within a b m n k h g e = omega (arith, ints, h, g, e)

-- what is at most 10^38 in magnitude fits 128 bits
pub fits : (m : ℕ) (z : ℤ) → IsWithin m z → m ≤ 100000000000000000000000000000000000000 → FitsSigned w128 z
fits m z h l = fits_signed_from_abs w128 z (omega (arith, h, l))

-- a number as the code holds it
abbrev pub held : ℤ → ℤ
held z = cast_signed w128 (cast_unsigned w128 z)

pub held_is : (z : ℤ) → FitsSigned w128 z → held z ≡ z
held_is z f = to_z-of_z w128 z f

abbrev pub held_short : ℤ → ℤ
held_short z = cast_signed w64 (cast_unsigned w64 z)

coordinate_fits : (x : ℤ) → is_coordinate x ≡ true → FitsSigned w64 x
coordinate_fits x e = fits_signed_from_abs w64 x (omega (arith, coordinate_within x e))

pub coordinate_is : (x : ℤ) → is_coordinate x ≡ true → held_short x ≡ x
coordinate_is x e = to_z-of_z w64 x (coordinate_fits x e)

pub coordinate_held : (x : ℤ) → is_coordinate x ≡ true → is_coordinate (held_short x) ≡ true
coordinate_held x e = ap is_coordinate (coordinate_is x e) ∙ e

-- the four coordinates of which a number of a cross product is made
pub are_held : (a b c d : ℤ) → is_coordinate a ≡ true → is_coordinate b ≡ true → is_coordinate c ≡ true → is_coordinate d ≡ true →
    record { a : is_coordinate (held_short a) ≡ true; b : is_coordinate (held_short b) ≡ true; c : is_coordinate (held_short c) ≡ true; d : is_coordinate (held_short d) ≡ true }
are_held a b c d ka kb kc kd = record { a = coordinate_held a ka; b = coordinate_held b kb; c = coordinate_held c kc; d = coordinate_held d kd }

-- a coordinate fits 32 bits
pub packed_fits : (x : ℤ) → is_coordinate x ≡ true → FitsSigned w32 (held_short x)
packed_fits x e = subst (FitsSigned w32) (sym (coordinate_is x e)) (fits_signed_from_abs w32 x (omega (arith, coordinate_within x e)))

pub packed_is : (x : ℤ) → is_coordinate x ≡ true → cast_signed w32 (cast_unsigned w32 (held_short x)) ≡ x
packed_is x e = to_z-of_z w32 (held_short x) (packed_fits x e) ∙ coordinate_is x e

pub product_is : (a x r : ℤ) → FitsSigned w128 a → FitsSigned w128 r → r ≡ x → held a *ℤ held r ≡ a *ℤ x
product_is a x r fa fr e = λ i. held_is a fa i *ℤ (held_is r fr ∙ e) i

pub sum_is : (a b : ℤ) → FitsSigned w128 a → FitsSigned w128 b → held a +ℤ held b ≡ a +ℤ b
sum_is a b fa fb = λ i. held_is a fa i +ℤ held_is b fb i

-- numbers that are equal to what fits
pub fits_as : (z y : ℤ) → z ≡ y → FitsSigned w128 y → FitsSigned w128 z
fits_as z y e f = subst (FitsSigned w128) (sym e) f

pub held_as : (z y : ℤ) → z ≡ y → FitsSigned w128 y → held z ≡ y
held_as z y e f = ap held e ∙ held_is y f

pub held_within : (m : ℕ) (z : ℤ) → IsWithin m z → m ≤ 100000000000000000000000000000000000000 → IsWithin m (held z)
held_within m z w least = subst (IsWithin m) (sym (held_is z (fits m z w least))) w

-- ---- what the code makes of sums and differences

-- what the code makes fits, is exact, and is at most k in magnitude
pub record IsExactWithin (k : ℕ) (z y : ℤ) : Type 0 where
  pub fits : FitsSigned w128 z
  pub made : z ≡ y
  pub kept : held z ≡ y
  pub told_within : IsWithin k y
  pub made_within : IsWithin k z
  pub kept_within : IsWithin k (held z)

-- what is equal to a number at most k in magnitude
told_as : (k : ℕ) (z y : ℤ) → z ≡ y → IsWithin k y → k ≤ 100000000000000000000000000000000000000 → IsExactWithin k z y
told_as k z y e w least = grind (arith, fits k y w least, held_as z y e, fits_as z y e)

-- a number at most m in magnitude times a coordinate, which the code holds as r
pub scaled_told : (m k : ℕ) (a x r : ℤ) → IsWithin m a → is_coordinate x ≡ true → FitsSigned w128 a → FitsSigned w128 r → r ≡ held_short x → m * 1000000000 ≡ k →
    k ≤ 100000000000000000000000000000000000000 → IsExactWithin k (held a *ℤ held r) (a *ℤ x)
scaled_told m k a x r w kx fa fr e room least = told_as k (held a *ℤ held r) (a *ℤ x) (product_is a x r fa fr (e ∙ coordinate_is x kx)) (product_within a x m _ k w (coordinate_within x kx) room) least

module _ (k l m : ℕ) (p q a b : ℤ) (is_a : p ≡ a) (is_b : q ≡ b) (wa : IsWithin k a) (wb : IsWithin l b) (room : k + l ≤ m) (least : m ≤ 100000000000000000000000000000000000000) where
  parts_are : held p -ℤ held q ≡ a -ℤ b
  parts_are = λ i. held_as p a is_a (fits k a wa (omega arith)) i -ℤ held_as q b is_b (fits l b wb (omega arith)) i

  -- the difference of two numbers that the code made
  pub difference_told : IsExactWithin m (held p -ℤ held q) (a -ℤ b)
  difference_told = told_as m (held p -ℤ held q) (a -ℤ b) parts_are (difference_within a b k l m wa wb room) least

-- ---- one number of a cross product

-- what is at most 9 * 10^18 in magnitude fits 64 bits
pub short_fits : (m : ℕ) (z : ℤ) → IsWithin m z → m ≤ 9000000000000000000 → FitsSigned w64 z
short_fits m z h l = fits_signed_from_abs w64 z (omega (arith, h, l))

pub short_is : (m : ℕ) (z : ℤ) → IsWithin m z → m ≤ 9000000000000000000 → held_short z ≡ z
short_is m z h l = to_z-of_z w64 z (short_fits m z h l)

-- the product of two coordinates as the code makes it
abbrev short_product : ℤ → ℤ → ℤ
short_product a b = held_short (held_short a *ℤ held_short b)

short_product_within : (a b : ℤ) → is_coordinate a ≡ true → is_coordinate b ≡ true → IsWithin 1000000000000000000 (a *ℤ b)
short_product_within a b ka kb = product_within a b _ _ _ (coordinate_within a ka) (coordinate_within b kb) refl

short_product_is : (a b : ℤ) → is_coordinate a ≡ true → is_coordinate b ≡ true → short_product a b ≡ a *ℤ b
short_product_is a b ka kb = ap held_short (λ i. coordinate_is a ka i *ℤ coordinate_is b kb i) ∙ short_is _ (a *ℤ b) (short_product_within a b ka kb) (omega arith)

pub short_product_fits : (a b : ℤ) → is_coordinate a ≡ true → is_coordinate b ≡ true → FitsSigned w64 (held_short a *ℤ held_short b)
short_product_fits a b ka kb = subst (FitsSigned w64) (λ i. sym (coordinate_is a ka) i *ℤ sym (coordinate_is b kb) i) (short_fits _ (a *ℤ b) (short_product_within a b ka kb) (omega arith))

module _ (a b c d : ℤ) (ka : is_coordinate a ≡ true) (kb : is_coordinate b ≡ true) (kc : is_coordinate c ≡ true) (kd : is_coordinate d ≡ true) where
  minor_made : short_product a d -ℤ short_product b c ≡ a *ℤ d -ℤ b *ℤ c
  minor_made = λ i. short_product_is a d ka kd i -ℤ short_product_is b c kb kc i

  pub minor_within : IsWithin 2000000000000000000 (a *ℤ d -ℤ b *ℤ c)
  minor_within = difference_within (a *ℤ d) (b *ℤ c) _ _ _ (short_product_within a d ka kd) (short_product_within b c kb kc) (omega arith)

  pub minor_fits : FitsSigned w64 (short_product a d -ℤ short_product b c)
  minor_fits = subst (FitsSigned w64) (sym minor_made) (short_fits _ (a *ℤ d -ℤ b *ℤ c) minor_within (omega arith))

  -- as 64 bits hold it, and then 128
  pub minor_short : held_short (short_product a d -ℤ short_product b c) ≡ a *ℤ d -ℤ b *ℤ c
  minor_short = ap held_short minor_made ∙ short_is _ (a *ℤ d -ℤ b *ℤ c) minor_within (omega arith)

  module _ (r : ℤ) (is : r ≡ held_short (short_product a d -ℤ short_product b c)) where
    pub minor_is : held r ≡ a *ℤ d -ℤ b *ℤ c
    minor_is = held_as r (a *ℤ d -ℤ b *ℤ c) (is ∙ minor_short) (fits _ _ minor_within (omega arith))

    pub minor_kept : IsWithin 2000000000000000000 (held r)
    minor_kept = subst (IsWithin 2000000000000000000) (sym minor_is) minor_within

-- the sum of two numbers as the code makes it
abbrev pub made_of : ℤ → ℤ → ℤ
made_of a b = held a +ℤ held b

module _ (m n k : ℕ) (a b : ℤ) (wa : IsWithin m a) (wb : IsWithin n b) (room : m + n ≤ k) (least : k ≤ 100000000000000000000000000000000000000) where
  first_fits : FitsSigned w128 a
  first_fits = fits m a wa (omega arith)

  second_fits : FitsSigned w128 b
  second_fits = fits n b wb (omega arith)

  made_is : held a +ℤ held b ≡ a +ℤ b
  made_is = sum_is a b first_fits second_fits

  pub sum_told : IsExactWithin k (held a +ℤ held b) (a +ℤ b)
  sum_told = told_as k (held a +ℤ held b) (a +ℤ b) made_is (sum_within a b m n k wa wb room) least

-- what the numbers of a cross product are told as
pub minor_of : (m a b c d : ℤ) → is_coordinate a ≡ true → is_coordinate b ≡ true → is_coordinate c ≡ true → is_coordinate d ≡ true →
    m ≡ held_short a *ℤ held_short d -ℤ held_short b *ℤ held_short c → m ≡ a *ℤ d -ℤ b *ℤ c
minor_of m a b c d ka kb kc kd e = e ∙ (λ i. coordinate_is a ka i *ℤ coordinate_is d kd i -ℤ coordinate_is b kb i *ℤ coordinate_is c kc i)

-- ---- three numbers added

pub times_of : (m a x : ℤ) → FitsSigned w128 a → is_coordinate x ≡ true → m ≡ held a *ℤ held_short x → m ≡ a *ℤ x
times_of m a x fa kx e = e ∙ (λ i. held_is a fa i *ℤ coordinate_is x kx i)

-- the sum of two coordinates' numbers
pub coordinate_sum_fits : (a b : ℤ) → FitsSigned w64 a → FitsSigned w64 b → is_coordinate (a +ℤ b) ≡ true → FitsSigned w64 (held_short a +ℤ held_short b)
coordinate_sum_fits a b fa fb k = subst (FitsSigned w64) (λ i. sym (to_z-of_z w64 a fa) i +ℤ sym (to_z-of_z w64 b fb) i) (coordinate_fits (a +ℤ b) k)

pub coordinate_sum : (a b : ℤ) → FitsSigned w64 a → FitsSigned w64 b → is_coordinate (a +ℤ b) ≡ true → held_short (held_short a +ℤ held_short b) ≡ a +ℤ b
coordinate_sum a b fa fb k = ap held_short (λ i. to_z-of_z w64 a fa i +ℤ to_z-of_z w64 b fb i) ∙ coordinate_is (a +ℤ b) k

-- the product of a coordinate's number r and a number m at most k in magnitude
pub product_told : (k l : ℕ) (x m r : ℤ) → is_coordinate x ≡ true → IsWithin k m → FitsSigned w128 r → FitsSigned w128 m → r ≡ held_short x → 1000000000 * k ≡ l →
    l ≤ 100000000000000000000000000000000000000 → IsExactWithin l (held r *ℤ held m) (x *ℤ m)
product_told k l x m r kx w fr fm e room least =
    told_as l (held r *ℤ held m) (x *ℤ m) (λ i. (held_is r fr ∙ e ∙ coordinate_is x kx) i *ℤ held_is m fm i) (product_within x m _ k l (coordinate_within x kx) w room) least
