-- The loop along a path and back, as a list.
use Rattle.sweeps_laws.proofs.Prelude.{◌≡◌, ℕ, zero, suc, ◌+◌, ◌≤◌, List, [], ◌∷◌, ◌++◌, refl, sym, ap, ◌∙◌, arith, map, reverse, append_assoc, append-nil, map-append, reverse-append, eqb_tells, count, IsIn, IsApart, least, rotate_to, canonical, plus, minus, count-append, tick_other, tick_le, least_with_le, least_with_in, rotate_to_head, canonical_same, IsIn_head, numbers_after, out, back}

-- a list from its least item on is in its canonical form
pub canonical_least : (x : ℕ) (zs : List ℕ) → least (x ∷ zs) ≡ x → canonical (x ∷ zs) ≡ x ∷ zs
unfolding canonical
canonical_least x zs e = ap (λ y. rotate_to y (x ∷ zs)) e ∙ rotate_to_head x zs

least_first : (x : ℕ) (zs : List ℕ) → ((y : ℕ) → IsIn y zs → x ≤ y) → least (x ∷ zs) ≡ x
least_first x zs low = grind (arith, least_with_le x zs x (IsIn_head x zs), least_with_in x zs, tick_other (least (x ∷ zs)) x, low (least (x ∷ zs)))

pub canonical_first : (x : ℕ) (zs : List ℕ) → ((y : ℕ) → IsIn y zs → x ≤ y) → canonical (x ∷ zs) ≡ x ∷ zs
canonical_first x zs low = canonical_least x zs (least_first x zs low)

-- where items lie
out_within : (e j x : ℕ) → IsIn x (out e j) → (plus (e + 1) ≤ x) × (x ≤ plus (e + j))
out_within e zero x i = absurd (omega arith)
out_within e (suc j) x i = grind (arith, i, count-append, tick_other, out_within e j x)

pub back_within : (e j x : ℕ) → IsIn x (back e j) → (minus (e + 1) ≤ x) × (x ≤ minus (e + j))
back_within e zero x i = absurd (omega arith)
back_within e (suc j) x i = grind (arith, i, tick_other, back_within e j x)

pub out_apart : (e j : ℕ) → IsApart (out e j)
out_apart e zero x = grind arith
out_apart e (suc j) x = grind (arith, eqb_tells, count-append, tick_le, out_within e j x, tick_other, out_apart e j x)

pub back_apart : (e j : ℕ) → IsApart (back e j)
back_apart e zero x = grind arith
back_apart e (suc j) x = grind (arith, eqb_tells, tick_le, back_within e j x, tick_other, back_apart e j x)

-- the plus halves after the first
abbrev pub later : ℕ → ℕ → List ℕ
later e zero = []
later e (suc j) = later e j ++ plus (e + suc (suc j)) ∷ []

pub out_first : (e j : ℕ) → out e (suc j) ≡ plus (e + 1) ∷ later e j
out_first e zero = refl
out_first e (suc j) = ap (λ xs. xs ++ plus (e + suc (suc j)) ∷ []) (out_first e j)

later_high : (e j y : ℕ) → IsIn y (later e j) → plus (e + 1) ≤ y
later_high e j y i = (out_within e (suc j) y (omega (arith, i, ap (count y) (out_first e j)))).0

-- a list of the plus halves, and others that aren't less than the first, is in its canonical form
pub canonical_out : (e j : ℕ) (ys : List ℕ) → ((y : ℕ) → IsIn y ys → plus (e + 1) ≤ y) → canonical (out e (suc j) ++ ys) ≡ out e (suc j) ++ ys
canonical_out e j ys low = grind (arith, out_first, canonical_first, later_high, count-append)

-- the loop along a path, and the one along the next edge too
pub path_read : (e j : ℕ) → canonical (out e (suc j) ++ back e (suc j)) ≡ out e (suc j) ++ back e (suc j)
path_read e j = canonical_out e j (back e (suc j)) (λ y i. omega (arith, (back_within e (suc j) y i).0))

pub longer : (e j : ℕ) → canonical (out e (suc j) ++ plus (e + suc (suc j)) ∷ minus (e + suc (suc j)) ∷ back e (suc j)) ≡ out e (suc (suc j)) ++ back e (suc (suc j))
longer e j = ap canonical (sym (append_assoc (out e (suc j)) (plus (e + suc (suc j)) ∷ []) (back e (suc (suc j))))) ∙ path_read e (suc j)

-- an item moved from the front to the end
pub moved_last : (x : ℕ) (xs : List ℕ) → IsApart (xs ++ x ∷ []) → canonical (x ∷ xs) ≡ canonical (xs ++ x ∷ [])
moved_last x xs apart = canonical_same (x ∷ xs) (xs ++ x ∷ []) (record { front = x ∷ []; back = xs; here = refl; there = refl }) (λ y. omega (arith, apart y, count-append y xs (x ∷ [])))

pub first_moved : (x : ℕ) (xs : List ℕ) → IsApart (x ∷ xs) → canonical (xs ++ x ∷ []) ≡ canonical (x ∷ xs)
first_moved x xs apart = canonical_same (xs ++ x ∷ []) (x ∷ xs) (record { front = xs; back = x ∷ []; here = refl; there = refl }) (λ y. omega (arith, apart y, count-append y xs (x ∷ [])))

-- the two loops of the closed ring
pub ring_plus : (e j : ℕ) → canonical (plus (e + suc (suc j)) ∷ plus (e + 1) ∷ later e j) ≡ out e (suc (suc j))
ring_plus e j = ap (λ xs. canonical (plus (e + suc (suc j)) ∷ xs)) (sym (out_first e j))
    ∙ moved_last (plus (e + suc (suc j))) (out e (suc j)) (out_apart e (suc (suc j)))
    ∙ ap canonical (sym (append-nil (out e (suc (suc j))))) ∙ canonical_out e (suc j) [] (λ y i. absurd (omega (arith, i))) ∙ append-nil (out e (suc (suc j)))

pub ring_minus : (e j : ℕ) → canonical (back e (suc j) ++ minus (e + suc (suc j)) ∷ []) ≡ canonical (back e (suc (suc j)))
ring_minus e j = first_moved (minus (e + suc (suc j))) (back e (suc j)) (back_apart e (suc (suc j)))

-- the same lists from the numbers of the edges
pub numbers_last : (e n : ℕ) → numbers_after e (suc n) ≡ numbers_after e n ++ (e + suc n) ∷ []
numbers_last e zero = grind arith
numbers_last e (suc n) = grind (arith, numbers_last (e + 1) n)

pub plus_halves : (e n : ℕ) → map plus (numbers_after e n) ≡ out e n
plus_halves e zero = refl
plus_halves e (suc n) = ap (map plus) (numbers_last e n) ∙ map-append plus (numbers_after e n) ((e + suc n) ∷ []) ∙ ap (λ xs. xs ++ plus (e + suc n) ∷ []) (plus_halves e n)

pub minus_halves : (e n : ℕ) → reverse (map minus (numbers_after e n)) ≡ back e n
minus_halves e zero = refl
minus_halves e (suc n) = ap (λ xs. reverse (map minus xs)) (numbers_last e n) ∙ ap reverse (map-append minus (numbers_after e n) ((e + suc n) ∷ []))
    ∙ reverse-append (map minus (numbers_after e n)) (minus (e + suc n) ∷ []) ∙ ap (λ xs. minus (e + suc n) ∷ xs) (minus_halves e n)

-- the loop along one edge
pub two_halves : (e : ℕ) → canonical (plus (e + 1) ∷ minus (e + 1) ∷ []) ≡ out e 1 ++ back e 1
two_halves e = path_read e 0
