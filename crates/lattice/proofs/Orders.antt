-- The order of points.
use Rattle.lattice.proofs.Prelude.{◌≡◌, ℤ, int_cmp, Ordering, Less, Equal, Greater, refl, arith, int_lt, ◌&&◌, ◌||◌, is_lt, is_eq, is_gt, int_eq, Point, lex_less}
use Rattle.std.specs.Ordering.{ordering_then}

pub less_is : (p q : Point) → is_lt (ordering_then (ordering_then (int_cmp p.x q.x) (int_cmp p.y q.y)) (int_cmp p.z q.z)) ≡ lex_less p q
less_is p q = grind (arith)

pub after_greater : (a b c : Ordering) → is_gt (ordering_then (ordering_then a b) c) ≡ is_gt a || (is_eq a && (is_gt b || (is_eq b && is_gt c)))
after_greater Less b c = refl
after_greater Greater b c = refl
after_greater Equal Less c = refl
after_greater Equal Greater c = refl
after_greater Equal Equal c = refl

pub turned_greater : (a b : ℤ) → is_gt (int_cmp a b) ≡ int_lt b a
turned_greater a b = grind arith

pub turned_equal : (a b : ℤ) → is_eq (int_cmp a b) ≡ int_eq b a
turned_equal a b = grind arith

pub after_equal : (a b c : Ordering) → is_eq (ordering_then (ordering_then a b) c) ≡ is_eq a && is_eq b && is_eq c
after_equal Less b c = refl
after_equal Greater b c = refl
after_equal Equal Less c = refl
after_equal Equal Greater c = refl
after_equal Equal Equal c = refl

pub equal_is : (m n : ℤ) → is_eq (int_cmp m n) ≡ int_eq m n
equal_is m n = grind arith

pub greater_is : (p q : Point) → is_gt (ordering_then (ordering_then (int_cmp p.x q.x) (int_cmp p.y q.y)) (int_cmp p.z q.z)) ≡ lex_less q p
greater_is p q = grind (arith, after_greater, p.x, q.x, p.y, q.y, p.z, q.z, turned_greater, turned_equal)
