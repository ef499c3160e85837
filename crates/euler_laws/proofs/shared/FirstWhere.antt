-- The first number of a table whose row passes a test is the least one.
use Rattle.euler_laws.proofs.Prelude.{◌≡◌, ℕ, ◌≤◌, Bool, true, false, cond, List, [], ◌∷◌, Some, refl, sym, ◌∙◌, arith, true≢false, inl, inr, Table, first_where, all_where, first_in, all_in, lists, strictly_rises, head_or_zero}
use Rattle.euler_operators.specs.Table as table
use Rattle.euler_laws.proofs.shared.Listed.{first_listed, listed_cases, listed_passes, passes_listed, all_where-rises}
use Rattle.euler_laws.proofs.Sizes.{rises_apart}

head_is_least : (m q : ℕ) (ns : List ℕ) → strictly_rises (m ∷ ns) ≡ true → lists (m ∷ ns) q ≡ true → m ≤ q
head_is_least m q [] r l = elim (listed_cases m q [] l) [ inl e ↦ omega arith | inr e ↦ absurd (true≢false (sym e)) ]
head_is_least m q (k ∷ ns) r l = grind (arith, head_is_least k q ns)

module _ {X : Type 0} (p : ℕ → X → Bool) (t : Table X) where
  first_is_head : first_where p t ≡ head_or_zero (all_where p t)
  unfolding first_where all_where
  first_is_head = head_is_first t.rows where
    head_is_first : (es : List (ℕ × X)) → first_in p es ≡ head_or_zero (all_in p es)
    head_is_first [] = refl
    head_is_first (e ∷ es) = step e.0 (p e.0 e.1) (first_in p es) (all_in p es) (head_is_first es) where
      step : (n : ℕ) (b : Bool) (m : ℕ) (ns : List ℕ) → m ≡ head_or_zero ns → cond b n m ≡ head_or_zero (cond b (n ∷ ns) ns)
      step n true m ns e = refl
      step n false m ns e = e

  -- a number that passes is the first where none less does
  pub first_where_least : (n : ℕ) (x : X) → table.get t n ≡ Some x → p n x ≡ true → ((q : ℕ) (y : X) → table.get t q ≡ Some y → p q y ≡ true → n ≤ q) → first_where p t ≡ n
  first_where_least n x there passes least = first_is_head ∙ head_is_given (all_where p t) (all_where-rises p t) (passes_listed p t n x there passes) (λ q l. let y = listed_passes p t q l in least q y.0 y.1 y.2) where
    head_is_given : (ns : List ℕ) → strictly_rises ns ≡ true → lists ns n ≡ true → ((q : ℕ) → lists ns q ≡ true → n ≤ q) → head_or_zero ns ≡ n
    head_is_given [] r l h = absurd (true≢false (sym l))
    head_is_given (m ∷ ns) r l h = omega (arith, head_is_least m n ns r l, h m (first_listed m ns))

  -- where one passes, the first passes and isn't greater
  pub first_passes : (q : ℕ) (y : X) → table.get t q ≡ Some y → p q y ≡ true → (lists (all_where p t) (first_where p t) ≡ true) × (first_where p t ≤ q)
  first_passes q y at passes =
      grind (arith, all_where-rises p t, first_is_head, passes_listed p t q y at passes, true≢false, first_listed, listed_cases, rises_apart)
