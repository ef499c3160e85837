-- Lists that a walk takes apart.
use Rattle.split_checks.proofs.Prelude.{◌≡◌, ◌∙◌, ℕ, ◌-◌, ◌≤◌, Bool, true, false, cond, ◌||◌, List, [], ◌∷◌, ◌++◌, map, length, slice_index_or, refl, sym, ap, arith, take, drop, filter, list_any, take_rest, map-append, HalfEdge, code, IsIn, IsApart, count-filter, filter_passes, AllAbove, Rising}

-- the first of a list, and the others
abbrev pub others : {A : Type 0} → List A → List A
others xs = take (length xs - 1) (drop 1 xs)

pub parts : {A : Type 0} (xs : List A) (d : A) → 1 ≤ length xs → xs ≡ slice_index_or xs 0 d ∷ others xs
parts [] d l = absurd (omega arith)
parts {A} (x ∷ xs) d l = ap (λ (ys : List A). x ∷ ys) (sym (take_rest (x ∷ xs) 1))

-- the last of a list, and those before it
abbrev pub fewer : {A : Type 0} → List A → List A
fewer xs = take (length xs - 1) xs

last_part : {A : Type 0} (xs : List A) (d : A) → 1 ≤ length xs → xs ≡ fewer xs ++ slice_index_or xs (length xs - 1) d ∷ []
last_part [] d l = absurd (omega (arith, l))
last_part (x ∷ []) d l = refl
last_part {A} (x ∷ y ∷ ys) d l = grind (arith, last_part (y ∷ ys) d (omega arith))

pub last_code : (hs : List HalfEdge) (d : HalfEdge) → 1 ≤ length hs → map code hs ≡ map code (fewer hs) ++ code (slice_index_or hs (length hs - 1) d) ∷ []
last_code hs d l = ap (λ (ks : List HalfEdge). map code ks) (last_part hs d l) ∙ map-append code (fewer hs) (slice_index_or hs (length hs - 1) d ∷ [])

-- the codes of two half-edges that are all of a list
abbrev pub no_half : HalfEdge
no_half = record { edge = 0; first = false }

pub two_codes : (xs : List HalfEdge) (hs : List ℕ) → 2 ≤ length xs → length xs ≤ 2 → map code xs ≡ hs → code (slice_index_or xs 0 no_half) ∷ code (slice_index_or xs 1 no_half) ∷ [] ≡ hs
two_codes [] hs l m e = absurd (omega arith)
two_codes (x ∷ []) hs l m e = absurd (omega arith)
two_codes (x ∷ y ∷ []) hs l m e = e
two_codes (x ∷ y ∷ z ∷ zs) hs l m e = absurd (omega arith)

-- a test of what is made of each item
pub any_map : (p : ℕ → Bool) (f : ℕ → ℕ) (xs : List ℕ) → list_any p (map f xs) ≡ list_any (λ x. p (f x)) xs
any_map p f [] = refl
any_map p f (x ∷ xs) = ap (λ b. p (f x) || b) (any_map p f xs)

-- what stands among the picked stands in the list and passes, and the other way
pub of_picked : (p : ℕ → Bool) (x : ℕ) (xs : List ℕ) → IsIn x (filter p xs) → IsIn x xs × (p x ≡ true)
of_picked p x xs i = (omega (arith, i, count-filter p x xs), filter_passes p x xs i)

pub picked_apart : (p : ℕ → Bool) (xs : List ℕ) → IsApart xs → IsApart (filter p xs)
picked_apart p xs d x = omega (arith, d x, count-filter p x xs)

-- what is picked from a rising list rises
above_picked : (p : ℕ → Bool) (n : ℕ) (xs : List ℕ) → AllAbove n xs → AllAbove n (filter p xs)
above_picked p n [] a = tt
above_picked p n (x ∷ xs) a = elim (p x) as (λ b. AllAbove n (cond b (x ∷ filter p xs) (filter p xs))) [ true ↦ (a.0, above_picked p n xs a.1) | false ↦ above_picked p n xs a.1 ]

pub picked_rise : (p : ℕ → Bool) (xs : List ℕ) → Rising xs → Rising (filter p xs)
picked_rise p [] r = tt
picked_rise p (x ∷ xs) r = elim (p x) as (λ b. Rising (cond b (x ∷ filter p xs) (filter p xs))) [ true ↦ (above_picked p x xs r.0, picked_rise p xs r.1) | false ↦ picked_rise p xs r.1 ]
