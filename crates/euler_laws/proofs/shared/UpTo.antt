-- The numbers of a rising list up to one.
use Rattle.euler_laws.proofs.Prelude.{◌≡◌, ℕ, ◌≤◌, ◌<◌, true, false, cond, nat_le, List, [], ◌∷◌, ◌++◌, refl, sym, ap, ◌∙◌, arith, true≢false, inl, inr, nat_tests, count, lists, strictly_rises, at_most_or_above}
use Rattle.euler_laws.proofs.shared.Listed.{first_listed, rest_listed, listed_cases}
use Rattle.euler_laws.proofs.Sizes.{rises_on, rises_apart}

abbrev pub up_to : ℕ → List ℕ → List ℕ
up_to n [] = []
up_to n (m ∷ ms) = cond (nat_le m n) (m ∷ up_to n ms) (up_to n ms)

takes : (m n : ℕ) (ms : List ℕ) → m ≤ n → up_to n (m ∷ ms) ≡ m ∷ up_to n ms
takes m n ms l = let e : nat_le m n ≡ true = grind (arith, nat_tests) in ap (λ b. cond b (m ∷ up_to n ms) (up_to n ms)) e

drops : (m n : ℕ) (ms : List ℕ) → n < m → up_to n (m ∷ ms) ≡ up_to n ms
drops m n ms l = let e : nat_le m n ≡ false = grind (arith, nat_tests) in ap (λ b. cond b (m ∷ up_to n ms) (up_to n ms)) e

pub up_to_none : (n : ℕ) (ns : List ℕ) → ((k : ℕ) → lists ns k ≡ true → n < k) → up_to n ns ≡ []
up_to_none n [] h = refl
up_to_none n (m ∷ ms) h = drops m n ms (h m (first_listed m ms)) ∙ up_to_none n ms (λ k l. h k (rest_listed m k ms l))

pub up_to_all : (n : ℕ) (ns : List ℕ) → ((k : ℕ) → lists ns k ≡ true → k ≤ n) → up_to n ns ≡ ns
up_to_all n [] h = refl
up_to_all n (m ∷ ms) h = takes m n ms (h m (first_listed m ms)) ∙ ap (λ xs. m ∷ xs) (up_to_all n ms (λ k l. h k (rest_listed m k ms l)))

-- m is the next number of the list after n
pub up_to_next : (n m : ℕ) (ns : List ℕ) → strictly_rises ns ≡ true → lists ns m ≡ true → n < m → ((k : ℕ) → lists ns k ≡ true → n < k → m ≤ k) → up_to m ns ≡ up_to n ns ++ m ∷ []
up_to_next n m [] r i l h = absurd (true≢false (sym i))
up_to_next n m (a ∷ bs) r i l h = elim (at_most_or_above a n) [
  | inl s ↦ grind (arith, listed_cases a m bs i, takes a m bs, up_to_next n m bs (rises_on a bs r), rises_on a bs r, rest_listed a, takes a n bs s)
  | inr s ↦ grind (arith, up_to_none m bs, rises_apart a, drops a n bs s, up_to_none n bs, first_listed a bs, rises_apart a m bs r)
]

pub count_up_to : (x n : ℕ) (ns : List ℕ) → count x (up_to n ns) ≤ count x ns
count_up_to x n [] = omega arith
count_up_to x n (m ∷ ms) = grind (arith, count_up_to x n ms)

pub listed_up_to : (x n : ℕ) (ns : List ℕ) → lists (up_to n ns) x ≡ true → lists ns x ≡ true
listed_up_to x n [] i = i
listed_up_to x n (m ∷ ms) i = grind (arith, listed_up_to x n ms)
