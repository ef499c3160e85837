-- Equations between vectors: sums, and products along and across.
use Rattle.lattice.proofs.Prelude.{refl, arith, ◌∙◌, ◌≡◌, ℕ, ℤ, pos, ◌+ℤ◌, ◌-ℤ◌, ◌*ℤ◌, ints, Point, origin, moved, dot}
use Rattle.lattice.proofs.Integers.{dif, dif-parts, difs, same_dif, number}

pub same_vector : (p q : Point) → p.x ≡ q.x → p.y ≡ q.y → p.z ≡ q.z → p ≡ q
same_vector p q a b c = λ i. record { x = a i; y = b i; z = c i }

abbrev pub vec : ℤ → ℤ → ℤ → Point
vec a b c = record { x = a; y = b; z = c }

-- b - a
abbrev pub from_to : Point → Point → Point
from_to a b = vec (b.x -ℤ a.x) (b.y -ℤ a.y) (b.z -ℤ a.z)

-- ---- sums

pub add_none : (a : ℤ) → a +ℤ pos 0 ≡ a
add_none a = omega (arith, ints)

pub none_add : (a : ℤ) → pos 0 +ℤ a ≡ a
none_add a = omega (arith, ints)

pub add_assoc : (a b c : ℤ) → (a +ℤ b) +ℤ c ≡ a +ℤ (b +ℤ c)
add_assoc a b c = omega (arith, ints)

pub add_exchanged : (a b c : ℤ) → a +ℤ (b +ℤ c) ≡ b +ℤ (a +ℤ c)
add_exchanged a b c = omega (arith, ints)

pub none_added : (a b c : ℤ) → a +ℤ b ≡ pos 0 → a +ℤ (b +ℤ c) ≡ c
none_added a b c e = omega (arith, ints)

pub moved_none : (p : Point) → moved p origin ≡ p
moved_none p = same_vector _ _ (add_none p.x) (add_none p.y) (add_none p.z)

pub none_moved : (p : Point) → moved origin p ≡ p
none_moved p = same_vector _ _ (none_add p.x) (none_add p.y) (none_add p.z)

pub moved_twice : (p q r : Point) → moved (moved p q) r ≡ moved p (moved q r)
moved_twice p q r = same_vector _ _ (add_assoc p.x q.x r.x) (add_assoc p.y q.y r.y) (add_assoc p.z q.z r.z)

-- ---- products with a sum

sum_dif : (a b c e f g h k l a' b' c' e' f' g' h' k' l' : ℕ) →
    (dif a a' +ℤ dif e e') *ℤ dif h h' +ℤ (dif b b' +ℤ dif f f') *ℤ dif k k' +ℤ (dif c c' +ℤ dif g g') *ℤ dif l l'
    ≡ (dif a a' *ℤ dif h h' +ℤ dif b b' *ℤ dif k k' +ℤ dif c c' *ℤ dif l l') +ℤ (dif e e' *ℤ dif h h' +ℤ dif f f' *ℤ dif k k' +ℤ dif g g' *ℤ dif l l')
sum_dif a b c e f g h k l a' b' c' e' f' g' h' k' l' = simp difs (same_dif _ _ _ _ (omega arith))

sum_part : (a b c e f g h k l : ℤ) →
    (a +ℤ e) *ℤ h +ℤ (b +ℤ f) *ℤ k +ℤ (c +ℤ g) *ℤ l ≡ (a *ℤ h +ℤ b *ℤ k +ℤ c *ℤ l) +ℤ (e *ℤ h +ℤ f *ℤ k +ℤ g *ℤ l)
sum_part a b c e f g h k l = rw (dif-parts a, dif-parts b, dif-parts c, dif-parts e, dif-parts f, dif-parts g, dif-parts h, dif-parts k, dif-parts l) (sum_dif _ _ _ _ _ _ _ _ _ _ _ _ _ _ _ _ _ _)

pub dot_moved : (p q d : Point) → dot (moved p q) d ≡ dot p d +ℤ dot q d
dot_moved p q d = sum_part p.x p.y p.z q.x q.y q.z d.x d.y d.z

turned_dif : (a b c e f g a' b' c' e' f' g' : ℕ) →
    dif a a' *ℤ dif e e' +ℤ dif b b' *ℤ dif f f' +ℤ dif c c' *ℤ dif g g' ≡ dif e e' *ℤ dif a a' +ℤ dif f f' *ℤ dif b b' +ℤ dif g g' *ℤ dif c c'
turned_dif a b c e f g a' b' c' e' f' g' = simp difs (same_dif _ _ _ _ (omega arith))

turned_part : (a b c e f g : ℤ) → a *ℤ e +ℤ b *ℤ f +ℤ c *ℤ g ≡ e *ℤ a +ℤ f *ℤ b +ℤ g *ℤ c
turned_part a b c e f g = rw (dif-parts a, dif-parts b, dif-parts c, dif-parts e, dif-parts f, dif-parts g) (turned_dif _ _ _ _ _ _ _ _ _ _ _ _)

pub dot_turned : (p q : Point) → dot p q ≡ dot q p
dot_turned p q = turned_part p.x p.y p.z q.x q.y q.z

zero_dif : (a b c a' b' c' : ℕ) → dif 0 0 *ℤ dif a a' +ℤ dif 0 0 *ℤ dif b b' +ℤ dif 0 0 *ℤ dif c c' ≡ dif 0 0
zero_dif a b c a' b' c' = simp difs (same_dif _ _ _ _ (omega arith))

zero_part : (z a b c : ℤ) → z ≡ pos 0 → z *ℤ a +ℤ z *ℤ b +ℤ z *ℤ c ≡ z
zero_part z a b c e = rw (dif-parts a, dif-parts b, dif-parts c, e ∙ number 0) (zero_dif _ _ _ _ _ _)

pub dot_origin : (d : Point) → dot origin d ≡ pos 0
dot_origin d = zero_part (pos 0) d.x d.y d.z refl

-- twice a sum, and a number with its double
twice_dif : (u p u' p' : ℕ) → dif 2 0 *ℤ (dif u u' +ℤ dif p p') ≡ dif 2 0 *ℤ dif u u' +ℤ dif 2 0 *ℤ dif p p'
twice_dif u p u' p' = simp difs (same_dif _ _ _ _ (omega arith))

pub twice_sum : (a b : ℤ) → pos 2 *ℤ (a +ℤ b) ≡ pos 2 *ℤ a +ℤ pos 2 *ℤ b
twice_sum a b = rw (dif-parts a, dif-parts b, number 2) (twice_dif _ _ _ _)

three_dif : (v u v' u' : ℕ) → (dif v v' +ℤ dif 2 0 *ℤ dif u u') +ℤ dif u u' ≡ dif v v' +ℤ dif 3 0 *ℤ dif u u'
three_dif v u v' u' = simp difs (same_dif _ _ _ _ (omega arith))

pub three_times : (v u : ℤ) → (v +ℤ pos 2 *ℤ u) +ℤ u ≡ v +ℤ pos 3 *ℤ u
three_times v u = rw (dif-parts v, dif-parts u, number 2, number 3) (three_dif _ _ _ _)

pub dot_sum : (d p q : Point) → dot d (moved p q) ≡ dot d p +ℤ dot d q
dot_sum d p q = dot_turned d (moved p q) ∙ dot_moved p q d ∙ (λ i. dot_turned p d i +ℤ dot_turned q d i)
