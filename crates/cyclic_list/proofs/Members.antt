-- What stands in lists that are made of others, and how many items they have.
use Rattle.cyclic_list.proofs.Prelude.{◌≡◌, ◌≢◌, ℕ, zero, suc, ◌+◌, ◌≤◌, ◌<◌, Bool, true, List, [], ◌∷◌, ◌++◌, map, length, refl, ap, arith, ◌⊎◌, inl, inr, filter, length-append, and_from, eqb_tells, count, IsIn, IsApart, SameItems, head_or, before, after}
use Rattle.std.specs.List.{list_all}
use Rattle.cyclic_list.proofs.Lists.{tick_same, tick_other, count-append, split_at}
use Rattle.cyclic_list.proofs.Rotations.{IsIn_head}
use Rattle.cyclic_list.proofs.Maps.{from_map}

pub IsIn_rest : (x y : ℕ) (ys : List ℕ) → IsIn x ys → IsIn x (y ∷ ys)
IsIn_rest x y ys i = omega arith

pub IsIn_one : (x y : ℕ) → IsIn y (x ∷ []) → y ≡ x
IsIn_one x y i = elim (eqb_tells y x) [ inl p ↦ p.1 | inr p ↦ absurd (omega (arith, tick_other y x p.1)) ]

pub IsIn_first : (xs : List ℕ) (x : ℕ) → IsIn x xs → IsIn (head_or 0 xs) xs
IsIn_first [] x i = absurd (omega (arith, i))
IsIn_first (y ∷ ys) x i = IsIn_head y ys

pub IsIn_some_head : (xs : List ℕ) → xs ≢ [] → IsIn (head_or 0 xs) xs
IsIn_some_head [] ne = absurd (ne refl)
IsIn_some_head (x ∷ xs) ne = IsIn_head x xs

pub IsIn_push : (x g : ℕ) (xs : List ℕ) → IsIn x (xs ++ g ∷ []) → IsIn x xs ⊎ (x ≡ g)
IsIn_push x g xs i = elim (eqb_tells x g) [ inl e ↦ inr e.1 | inr e ↦ inl (omega (arith, count-append x xs (g ∷ []), tick_other x g e.1)) ]

-- an item of the list isn't one that doesn't stand there
pub not_there : (x a : ℕ) (xs : List ℕ) → count a xs ≡ 0 → IsIn x xs → x ≢ a
not_there x a xs n i e = grind (arith, ap (λ y. count y xs) e)

pub no_cons : (x : ℕ) (xs : List ℕ) → x ∷ xs ≢ []
no_cons x xs e = cc

pub same_head : (x y : ℕ) (xs ys : List ℕ) → x ∷ xs ≡ y ∷ ys → y ≡ x
same_head x y xs ys e = cc

pub both_empty : (xs ys : List ℕ) → xs ++ ys ≡ [] → (xs ≡ []) × (ys ≡ [])
both_empty [] ys e = (refl, e)
both_empty (x ∷ xs) ys e = absurd (no_cons x (xs ++ ys) e)

-- the same list, without one item
pub count_taken : (x y : ℕ) (xs ys : List ℕ) → SameItems (x ∷ xs) ys → ys ≡ before x ys ++ x ∷ after x ys → count y xs ≡ count y (before x ys ++ after x ys)
count_taken x y xs ys s e = omega (arith, s y, ap (count y) e, count-append y (before x ys) (x ∷ after x ys), count-append y (before x ys) (after x ys))

-- ---- mapped

pub IsIn-map : (f : ℕ → ℕ) (x : ℕ) (xs : List ℕ) → IsIn x xs → IsIn (f x) (map f xs)
IsIn-map f x [] i = absurd (omega arith)
IsIn-map f x (y ∷ ys) i = grind (arith, eqb_tells x y, tick_same (f y), IsIn-map f x ys, tick_other x y)

-- different items have different images
pub IsApart-images : (f : ℕ → ℕ) (xs : List ℕ) → IsApart xs → ((x y : ℕ) → IsIn x xs → IsIn y xs → f x ≡ f y → x ≡ y) → IsApart (map f xs)
IsApart-images f [] d one z = omega arith
IsApart-images f (x ∷ xs) d one z = grind (arith, IsApart-images f xs, eqb_tells z (f x), from_map f z xs, tick_same x, tick_same (f x))

pub all_mapped : (p : ℕ → Bool) (f : ℕ → ℕ) (xs : List ℕ) → ((x : ℕ) → IsIn x xs → p (f x) ≡ true) → list_all p (map f xs) ≡ true
all_mapped p f [] h = refl
all_mapped p f (x ∷ xs) h = and_from (p (f x)) (list_all p (map f xs)) (h x (IsIn_head x xs)) (all_mapped p f xs (λ y i. h y (omega (arith, i))))

pub each_mapped : (p : ℕ → Bool) (f : ℕ → ℕ) (xs : List ℕ) (x : ℕ) → list_all p (map f xs) ≡ true → IsIn x xs → p (f x) ≡ true
each_mapped p f [] x all i = absurd (omega arith)
each_mapped p f (y ∷ ys) x all i = grind (arith, eqb_tells x y, each_mapped p f ys x, tick_other x y)

-- ---- picked by a test

pub IsIn-filter : (p : ℕ → Bool) (x : ℕ) (xs : List ℕ) → IsIn x xs → p x ≡ true → IsIn x (filter p xs)
IsIn-filter p x [] i e = absurd (omega arith)
IsIn-filter p x (y ∷ ys) i e = grind (arith, eqb_tells x y, IsIn-filter p x ys, tick_other x y, tick_same y)

pub count-filter : (p : ℕ → Bool) (x : ℕ) (xs : List ℕ) → count x (filter p xs) ≤ count x xs
count-filter p x [] = omega arith
count-filter p x (y ∷ ys) = grind (arith, count-filter p x ys)

pub filter_passes : (p : ℕ → Bool) (x : ℕ) (xs : List ℕ) → IsIn x (filter p xs) → p x ≡ true
filter_passes p x [] i = absurd (omega arith)
filter_passes p x (y ∷ ys) i = grind (arith, eqb_tells, tick_other, filter_passes p x ys)

-- ---- lengths

-- a list without repeats within another is no longer
pub apart_within : (xs ys : List ℕ) → IsApart xs → ((x : ℕ) → IsIn x xs → IsIn x ys) → length xs ≤ length ys
apart_within [] ys d h = omega arith
apart_within (x ∷ xs) ys d h =
    let one = length-append (before x ys) (x ∷ after x ys) in
    grind (arith, split_at x ys, apart_within xs (before x ys ++ after x ys), count-append, tick_other, one, length-append (before x ys) (after x ys))

numbers_below : ℕ → List ℕ
numbers_below zero = []
numbers_below (suc n) = n ∷ numbers_below n

length-numbers_below : (n : ℕ) → length (numbers_below n) ≡ n
unfolding numbers_below
length-numbers_below zero = refl
length-numbers_below (suc n) = omega (arith, length-numbers_below n)

in-numbers_below : (n x : ℕ) → x < n → IsIn x (numbers_below n)
unfolding numbers_below
in-numbers_below zero x l = absurd (omega arith)
in-numbers_below (suc n) x l = grind (arith, eqb_tells, tick_same, in-numbers_below n x)

-- a list without repeats of numbers below n has at most n items
pub length_below : (n : ℕ) (xs : List ℕ) → IsApart xs → ((x : ℕ) → IsIn x xs → x < n) → length xs ≤ n
length_below n xs d h = omega (arith, apart_within xs (numbers_below n) d (λ x i. in-numbers_below n x (h x i)), length-numbers_below n)

length-split : (x : ℕ) (ps qs : List ℕ) → length (ps ++ x ∷ qs) ≡ 1 + length (ps ++ qs)
length-split x ps qs = omega (arith, length-append ps (x ∷ qs), length-append ps qs)

-- lists with the same items have the same length
pub same_length : (xs ys : List ℕ) → ((x : ℕ) → count x xs ≡ count x ys) → length xs ≡ length ys
same_length [] [] h = refl
same_length [] (y ∷ ys) h = absurd (omega (arith, h y, tick_same y))
same_length (x ∷ xs) ys h =
    grind (arith, tick_same x, split_at x ys, same_length xs (before x ys ++ after x ys), count-append, length-split x (before x ys) (after x ys))
