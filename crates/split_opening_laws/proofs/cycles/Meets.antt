-- Sums over a list, and how many items of a list stand in another, counted from either side.
use Rattle.split_opening_laws.proofs.Prelude.{◌≡◌, ℕ, ◌+◌, ◌≤◌, Bool, true, false, List, [], ◌∷◌, map, refl, sym, ap, ◌∙◌, arith, inl, inr, not, ◌&&◌, filter, flat_map, eqb_tells, tick, count, IsIn, IsApart, head_or, IsPath, IsRing, tick_same, tick_other, count-append, IsIn-map}

abbrev pub total : (ℕ → ℕ) → List ℕ → ℕ
total f [] = 0
total f (x ∷ xs) = f x + total f xs

pub total_same : (f g : ℕ → ℕ) (xs : List ℕ) → ((x : ℕ) → IsIn x xs → f x ≡ g x) → total f xs ≡ total g xs
total_same f g [] e = refl
total_same f g (x ∷ xs) e = omega (arith, e x (omega (arith, tick_same x)), total_same f g xs (λ y i. e y (omega (arith, i))))

total_zero : (f : ℕ → ℕ) (xs : List ℕ) → ((x : ℕ) → f x ≡ 0) → total f xs ≡ 0
total_zero f [] e = refl
total_zero f (x ∷ xs) e = omega (arith, e x, total_zero f xs e)

total_sum : (f g : ℕ → ℕ) (xs : List ℕ) → total (λ x. f x + g x) xs ≡ total f xs + total g xs
total_sum f g [] = refl
total_sum f g (x ∷ xs) = omega (arith, total_sum f g xs)

pub tick_turned : (x y : ℕ) → tick x y ≡ tick y x
tick_turned x y = grind arith

pub total_ticks : (x : ℕ) (ys : List ℕ) → total (λ y. tick y x) ys ≡ count x ys
total_ticks x [] = refl
total_ticks x (y ∷ ys) = omega (arith, tick_turned x y, total_ticks x ys)

-- the items of xs in ys are as many as those of ys in xs
pub meet_turned : (xs ys : List ℕ) → total (λ x. count x ys) xs ≡ total (λ y. count y xs) ys
meet_turned [] ys = sym (total_zero (λ y. 0) ys (λ y. refl))
meet_turned (x ∷ xs) ys = omega (arith, meet_turned xs ys, total_ticks x ys, total_sum (λ y. tick y x) (λ y. count y xs) ys)

-- ---- lists made of others

pub count_map : (f : ℕ → ℕ) (x : ℕ) (ys : List ℕ) → count x (map f ys) ≡ total (λ y. tick x (f y)) ys
count_map f x [] = refl
count_map f x (y ∷ ys) = omega (arith, count_map f x ys)

-- where the values stay apart, the items do
count_below : (f : ℕ → ℕ) (x : ℕ) (ys : List ℕ) → count x ys ≤ count (f x) (map f ys)
count_below f x [] = omega arith
count_below f x (y ∷ ys) = grind (arith, tick_same, tick_other, count_below f x ys)

pub apart_before : (f : ℕ → ℕ) (xs : List ℕ) → IsApart (map f xs) → IsApart xs
apart_before f xs d x = omega (arith, d (f x), count_below f x xs)

-- and an item is known by its own
pub known_by : (f : ℕ → ℕ) (xs : List ℕ) → IsApart (map f xs) → (x y : ℕ) → IsIn x xs → IsIn y xs → f x ≡ f y → x ≡ y
known_by f [] d x y i j e = absurd (omega arith)
known_by f (z ∷ zs) d x y i j e = elim (eqb_tells x z) [
  | inl p ↦ elim (eqb_tells y z) [
    | inl q ↦ p.1 ∙ sym q.1
    | inr q ↦ absurd (omega (arith, d (f z), tick_same (f z), ap (λ w. count w (map f zs)) (sym e ∙ ap f p.1), IsIn-map f y zs (omega (arith, j, tick_other y z q.1))))
  ]
  | inr p ↦ elim (eqb_tells y z) [
    | inl q ↦ absurd (omega (arith, d (f z), tick_same (f z), ap (λ w. count w (map f zs)) (e ∙ ap f q.1), IsIn-map f x zs (omega (arith, i, tick_other x z p.1))))
    | inr q ↦ known_by f zs (λ w. omega (arith, d w)) x y (omega (arith, i, tick_other x z p.1)) (omega (arith, j, tick_other y z q.1)) e
  ]
]

-- an item that passes is kept, and no other comes in
pub count_filter : (p : ℕ → Bool) (x : ℕ) (ys : List ℕ) → p x ≡ true → count x (filter p ys) ≡ count x ys
count_filter p x [] t = refl
count_filter p x (y ∷ ys) t = grind (arith, tick_other, count_filter p x ys t)

-- how often an item stands in lists that are put one after the other
pub count_flat : (g : ℕ → List ℕ) (x : ℕ) (ls : List ℕ) → count x (flat_map g ls) ≡ total (λ l. count x (g l)) ls
count_flat g x [] = refl
count_flat g x (l ∷ ls) = omega (arith, count-append x (g l) (flat_map g ls), count_flat g x ls)

-- ---- going once round a ring on which each item is on or off, one comes on as often as one goes off

abbrev pub bit : Bool → ℕ
bit true = 1
bit false = 0

-- the items that are off and whose next is on, and the other way
abbrev pub comes_on : (ℕ → ℕ) → (ℕ → Bool) → ℕ → Bool
comes_on next on x = not (on x) && on (next x)

one_step : (a b : Bool) → bit (not a && b) + bit a ≡ bit (a && not b) + bit b
one_step a b = grind arith

pub changes_on_path : (next : ℕ → ℕ) (on : ℕ → Bool) (xs : List ℕ) (d : ℕ) → IsPath next xs d →
    total (λ x. bit (comes_on next on x)) xs + bit (on (head_or d xs)) ≡ total (λ x. bit (on x && not (on (next x)))) xs + bit (on d)
changes_on_path next on [] d p = refl
changes_on_path next on (x ∷ xs) d p = omega (arith, one_step (on x) (on (next x)), ap (λ y. bit (on y)) p.0, changes_on_path next on xs d p.1)

pub changes_round_ring : (next : ℕ → ℕ) (on : ℕ → Bool) (xs : List ℕ) → IsRing next xs →
    total (λ x. bit (comes_on next on x)) xs ≡ total (λ x. bit (on x && not (on (next x)))) xs
changes_round_ring next on [] r = refl
changes_round_ring next on (x ∷ xs) r = omega (arith, changes_on_path next on (x ∷ xs) x r)
