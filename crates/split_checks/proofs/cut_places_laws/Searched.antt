-- A search in a rising list tells whether a number stands in it.
use Rattle.split_checks.proofs.Prelude.{◌≡◌, ◌≢◌, ℕ, ◌≤◌, ◌<◌, true, List, length, get_or, Result, Ok, Err, sym, ap, ◌∙◌, arith, true≢false, is_ok, nat_cmp, IsBinarySearchResult, searched, lists, strictly_rises, rising, listed_at, not_found}

less : (a b : ℕ) → a ≤ b → a ≢ b → a < b
less a b l ne = grind arith

ordered : (ns : List ℕ) → strictly_rises ns ≡ true → (i j : ℕ) → i ≤ j → j < length ns → get_or ns i 0 ≤ get_or ns j 0
ordered ns r i j l m = grind (arith, rising, less)

pub found_listed : (ns : List ℕ) (n : ℕ) (r : Result ℕ ℕ) → strictly_rises ns ≡ true → IsBinarySearchResult (λ y. nat_cmp y n) ns r → is_ok r ≡ lists ns n
found_listed ns n (Ok i) up w = let a = searched ns n (Ok i) w (ordered ns up) in sym (ap (lists ns) (sym a.1) ∙ listed_at ns i a.0)
found_listed ns n (Err i) up w = let a = searched ns n (Err i) w (ordered ns up) in not_found ns n i a.1 a.2

-- and finds the place of one that does
pub found_at : (ns : List ℕ) (n i : ℕ) → strictly_rises ns ≡ true → IsBinarySearchResult (λ y. nat_cmp y n) ns (Ok i) → (i < length ns) × (get_or ns i 0 ≡ n)
found_at ns n i up w = searched ns n (Ok i) w (ordered ns up)

pub none_missed : (ns : List ℕ) (n i : ℕ) → strictly_rises ns ≡ true → lists ns n ≡ true → IsBinarySearchResult (λ y. nat_cmp y n) ns (Err i) → ⊥
none_missed ns n i up listed w = let a = searched ns n (Err i) w (ordered ns up) in true≢false (sym listed ∙ sym (not_found ns n i a.1 a.2))
