-- Strictly rising lists put together, and thinned out.
use Rattle.split_opening_laws.proofs.Prelude.{◌≡◌, ℕ, ◌<◌, true, ◌&&◌, List, [], ◌∷◌, refl, ap, ◌∙◌, arith, filter, lt-ltb, Bool, IsIn, strictly_rises, count-filter, first_listed, IsIn-from_listed, rises_over, rises_on}

pub rises_cons : (n : ℕ) (ns : List ℕ) → ((k : ℕ) → IsIn k ns → n < k) → strictly_rises ns ≡ true → strictly_rises (n ∷ ns) ≡ true
rises_cons n [] l r = refl
rises_cons n (m ∷ ms) l r = ap (λ b. b && strictly_rises (m ∷ ms)) (lt-ltb n m (l m (IsIn-from_listed m (m ∷ ms) (first_listed m ms)))) ∙ r

pub filter_rises : (p : ℕ → Bool) (ns : List ℕ) → strictly_rises ns ≡ true → strictly_rises (filter p ns) ≡ true
filter_rises p [] r = refl
filter_rises p (n ∷ ns) r = grind (arith, rises_on, rises_cons, rises_over, count-filter, filter_rises p ns (rises_on n ns r))
