-- Equations between sums and products of integers: each integer is read as a difference of two naturals, and `omega` compares these.
--     difs          for `simp`: sums, differences and products of differences are differences
--     dif-parts     an integer as a difference, for `rw`
use Rattle.lattice.proofs.Prelude.{arith, ◌≡◌, ℕ, ◌+◌, ◌*◌, ℤ, pos, ◌+ℤ◌, ◌-ℤ◌, ◌*ℤ◌, neg_ℤ, ints}
use borrow.Author.Differences.{up, down, same_in, product_is}

-- u - v
unfoldable pub dif : ℕ → ℕ → ℤ
dif u v = pos u -ℤ pos v

dif_is : (u v : ℕ) → up (dif u v) + v ≡ u + down (dif u v)
unfolding dif
dif_is u v = omega (arith, ints)

pub same_dif : (u v p q : ℕ) → u + q ≡ p + v → dif u v ≡ dif p q
same_dif u v p q e = same_in (dif u v) (dif p q) (omega (arith, dif_is u v, dif_is p q))

pub dif-parts : (a : ℤ) → a ≡ dif (up a) (down a)
dif-parts a = same_in a (dif (up a) (down a)) (omega (arith, dif_is (up a) (down a)))

pub number : (n : ℕ) → pos n ≡ dif n 0
number n = dif-parts (pos n)

pub add-dif : (u v p q : ℕ) → dif u v +ℤ dif p q ≡ dif (u + p) (v + q)
add-dif u v p q = same_in (dif u v +ℤ dif p q) (dif (u + p) (v + q)) (omega (arith, ints, dif_is u v, dif_is p q, dif_is (u + p) (v + q)))

pub sub-dif : (u v p q : ℕ) → dif u v -ℤ dif p q ≡ dif (u + q) (v + p)
sub-dif u v p q = same_in (dif u v -ℤ dif p q) (dif (u + q) (v + p)) (omega (arith, ints, dif_is u v, dif_is p q, dif_is (u + q) (v + p)))

pub neg-dif : (u v : ℕ) → neg_ℤ (dif u v) ≡ dif v u
neg-dif u v = same_in (neg_ℤ (dif u v)) (dif v u) (omega (arith, ints, dif_is u v, dif_is v u))

-- (a - b) (c - d), where a + v = u + b and c + q = p + d
products : (a b c d u v p q : ℕ) → a + v ≡ u + b → c + q ≡ p + d → (a * c + b * d) + (u * q + v * p) ≡ (u * p + v * q) + (a * d + b * c)
products a b c d u v p q e f =
    let first : (a + v) * (c + q) ≡ (u + b) * (p + d) = λ i. e i * f i in
    let second : (a + v) * c + (a + v) * q ≡ (u + b) * c + (u + b) * q = λ i. e i * c + e i * q in
    let third : (a + v) * d ≡ (u + b) * d = λ i. e i * d in
    let fourth : u * (c + q) ≡ u * (p + d) = λ i. u * f i in
    let fifth : v * (c + q) ≡ v * (p + d) = λ i. v * f i in
    let sixth : (a + v) * c ≡ (u + b) * c = λ i. e i * c in
    omega arith

pub mul-dif : (u v p q : ℕ) → dif u v *ℤ dif p q ≡ dif (u * p + v * q) (u * q + v * p)
mul-dif u v p q =
    let one = products (up (dif u v)) (down (dif u v)) (up (dif p q)) (down (dif p q)) u v p q (dif_is u v) (dif_is p q) in
    grind (arith, product_is (dif u v) (dif p q), one, dif_is u v, dif_is p q, dif_is (u * p + v * q) (u * q + v * p))

-- for `simp`, at variables of the form dif u v
pub ruleset difs = (add-dif, sub-dif, neg-dif, mul-dif)
