-- Rising lists of numbers, and what of them stands above a number.
use Rattle.solid_walks.proofs.Prelude.{◌≡◌, ℕ, ◌<◌, ◌≤◌, Bool, true, false, ◌||◌, nat_eq, List, [], ◌∷◌, refl, sym, ap, arith, true≢false, nat_tests, or_right, lists, nat_eq_turned}
pub use Rattle.solid_walks.specs.Left.{above}

-- whether k stands in the list
abbrev pub member : ℕ → List ℕ → Bool
member k [] = false
member k (x ∷ xs) = nat_eq k x || member k xs

pub lists_member : (ks : List ℕ) (k : ℕ) → lists ks k ≡ member k ks
lists_member [] k = refl
lists_member (x ∷ xs) k = λ i. nat_eq_turned x k i || lists_member xs k i

-- each number is greater than n
abbrev pub AllAbove : ℕ → List ℕ → Type 0
AllAbove n [] = Unit {0}
AllAbove n (k ∷ ks) = (n < k) × AllAbove n ks

-- each number is greater than the one before it
abbrev pub Rising : List ℕ → Type 0
Rising [] = Unit {0}
Rising (k ∷ ks) = AllAbove k ks × Rising ks

pub all_above : (n : ℕ) (ks : List ℕ) → AllAbove n ks → above n ks ≡ ks
all_above n [] h = refl
all_above n (k ∷ ks) h = grind (arith, nat_tests, h.0, all_above n ks h.1)

pub above_lower : (n m : ℕ) (ks : List ℕ) → n ≤ m → AllAbove m ks → AllAbove n ks
above_lower n m [] l h = tt
above_lower n m (k ∷ ks) l h = let less : m < k = h.0 in (omega arith, above_lower n m ks l h.1)

pub not_member : (n k : ℕ) (ks : List ℕ) → k ≤ n → AllAbove n ks → member k ks ≡ false
not_member n k [] l h = refl
not_member n k (x ∷ xs) l h = grind (arith, nat_tests, h.0, not_member n k xs l h.1)

pub here : (k : ℕ) (xs : List ℕ) → member k (k ∷ xs) ≡ true
here k xs = let e : nat_eq k k ≡ true = grind (arith, nat_tests) in ap (λ b. b || member k xs) e

or_false : (a b : Bool) → a || b ≡ false → b ≡ false
or_false true b e = absurd (true≢false e)
or_false false b e = e

-- m is the least number above n: what stands above n is m, and then what stands above m
pub next_above : (n m : ℕ) (ks : List ℕ) → Rising ks → n < m → member m ks ≡ true → ((k : ℕ) → n < k → k < m → member k ks ≡ false) → above n ks ≡ m ∷ above m ks
next_above n m [] rising less there none = absurd (true≢false (sym there))
next_above n m (x ∷ xs) rising less there none =
    let on = λ (e : member m xs ≡ true). next_above n m xs rising.1 less e (λ k a b. or_false (nat_eq k x) (member k xs) (none k a b)) in
    grind (arith, nat_tests, on, none x, here x xs, all_above n xs, all_above m xs, above_lower n x xs, above_lower m x xs, not_member x m xs, rising.0)

-- no number is above n
pub none_above : (n : ℕ) (ks : List ℕ) → ((k : ℕ) → n < k → member k ks ≡ false) → above n ks ≡ []
none_above n [] none = refl
none_above n (x ∷ xs) none = let rest = none_above n xs (λ k up. or_false (nat_eq k x) (member k xs) (none k up)) in grind (arith, nat_tests, here x xs, none x, rest)

-- each number of the list is greater than n
pub all_above_members : (n : ℕ) (ks : List ℕ) → ((k : ℕ) → member k ks ≡ true → n < k) → AllAbove n ks
all_above_members n [] h = tt
all_above_members n (x ∷ xs) h = (h x (here x xs), all_above_members n xs (λ k t. h k (or_right (nat_eq k x) (member k xs) t)))
