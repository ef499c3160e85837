-- Rising lists of numbers.
use Rattle.euler_laws.proofs.Prelude.{◌≡◌, ℕ, zero, suc, ◌+◌, ◌<◌, ◌≤◌, true, false, nat_eq, ◌&&◌, List, [], ◌∷◌, length, get_or, refl, sym, ap, ◌∙◌, arith, true≢false, ◌⊎◌, inl, inr, eqb_tells, and_parts, lists, lists_all, strictly_rises}
use Rattle.euler_laws.proofs.shared.Listed.{first_listed, rest_listed, listed_cases}
use Rattle.euler_laws.proofs.Sizes.{rises_on, rises_apart}

pub listed_at : (fs : List ℕ) (i : ℕ) → i < length fs → lists fs (get_or fs i 0) ≡ true
listed_at [] i l = absurd (omega arith)
listed_at (f ∷ fs) zero l = first_listed f fs
listed_at (f ∷ fs) (suc i) l = rest_listed f (get_or fs i 0) fs (listed_at fs i (omega arith))

pub place_of : (fs : List ℕ) (n : ℕ) → lists fs n ≡ true → (k : ℕ) × (k < length fs) × (get_or fs k 0 ≡ n)
place_of [] n l = absurd (true≢false (sym l))
place_of (f ∷ fs) n l = elim (listed_cases f n fs l) [
  | inl e ↦ (0, omega arith, sym e)
  | inr e ↦ let p = place_of fs n e in (suc p.0, omega (arith, p.1), p.2)
]

pub rising : (fs : List ℕ) (i j : ℕ) → strictly_rises fs ≡ true → i < j → j < length fs → get_or fs i 0 < get_or fs j 0
rising [] i j r l m = absurd (omega arith)
rising (f ∷ fs) i zero r l m = absurd (omega arith)
rising (f ∷ fs) zero (suc j) r l m = rises_apart f (get_or fs j 0) fs r (listed_at fs j (omega arith))
rising (f ∷ fs) (suc i) (suc j) r l m = rising fs i j (rises_on f fs r) (omega arith) (omega arith)

pub short_rises : (xs : List ℕ) → length xs ≤ 1 → strictly_rises xs ≡ true
short_rises [] l = refl
short_rises (x ∷ []) l = refl
short_rises (x ∷ y ∷ xs) l = absurd (omega arith)

-- ---- two rising lists, one within the other

-- a rising list within another is no longer, and as long only where they are one
pub within : (fs gs : List ℕ) → strictly_rises fs ≡ true → strictly_rises gs ≡ true → ((q : ℕ) → lists fs q ≡ true → lists gs q ≡ true) → (length fs ≤ length gs) × (length fs ≡ length gs → fs ≡ gs)
within [] [] r s i = (omega arith, λ e. refl)
within [] (g ∷ gs) r s i = (omega arith, λ e. absurd (omega arith))
within (f ∷ fs) [] r s i = absurd (true≢false (sym (i f (first_listed f fs))))
within (f ∷ fs) (g ∷ gs) r s i =
    let one = within fs gs (rises_on f fs r) (rises_on g gs s) in let two = within (f ∷ fs) gs r (rises_on g gs s) in
    grind (arith, one, rises_on f fs r, rises_on g gs s, listed_cases g, rest_listed f, rises_apart f, two, listed_cases f, rises_apart g f gs s)

all_within : (fs gs : List ℕ) → lists_all fs gs ≡ true → (q : ℕ) → lists gs q ≡ true → lists fs q ≡ true
all_within fs [] a q l = absurd (true≢false (sym l))
all_within fs (g ∷ gs) a q l = let p = and_parts (lists fs g) (lists_all fs gs) a in elim (listed_cases g q gs l) [ inl e ↦ ap (lists fs) e ∙ p.0 | inr e ↦ all_within fs gs p.1 q e ]

within_all : (fs gs : List ℕ) → ((q : ℕ) → lists gs q ≡ true → lists fs q ≡ true) → lists_all fs gs ≡ true
within_all fs [] i = refl
within_all fs (g ∷ gs) i = ap (λ b. b && lists_all fs gs) (i g (first_listed g gs)) ∙ within_all fs gs (λ q l. i q (rest_listed g q gs l))

-- a rising list within another lists all of it where it is as long
pub all_listed : (fs gs : List ℕ) → strictly_rises fs ≡ true → strictly_rises gs ≡ true → ((q : ℕ) → lists fs q ≡ true → lists gs q ≡ true) → lists_all fs gs ≡ nat_eq (length fs) (length gs)
all_listed fs gs r s i = grind (arith, eqb_tells, within_all, within, all_within)

-- ---- halves of a rising list

pub below_middle : (fs : List ℕ) (n mid : ℕ) → strictly_rises fs ≡ true → mid < length fs → get_or fs mid 0 < n → (k : ℕ) → k < mid + 1 → get_or fs k 0 < n
below_middle fs n mid r m l k h = elim (eqb_tells k mid) [ inl e ↦ omega (arith, l, ap (λ j. get_or fs j 0) e.1) | inr e ↦ omega (arith, l, rising fs k mid r (omega arith) m) ]

pub above_middle : (fs : List ℕ) (n mid : ℕ) → strictly_rises fs ≡ true → n < get_or fs mid 0 → (k : ℕ) → mid ≤ k → k < length fs → n < get_or fs k 0
above_middle fs n mid r l k h m = elim (eqb_tells k mid) [ inl e ↦ omega (arith, l, ap (λ j. get_or fs j 0) e.1) | inr e ↦ omega (arith, l, rising fs mid k r (omega arith) m) ]

less_or : (a b : ℕ) → (a < b) ⊎ (b ≤ a)
less_or a b = grind arith

pub not_found : (fs : List ℕ) (n low : ℕ) → ((k : ℕ) → k < low → get_or fs k 0 < n) → ((k : ℕ) → low ≤ k → k < length fs → n < get_or fs k 0) → false ≡ lists fs n
not_found fs n low below above = grind (arith, place_of, less_or)
