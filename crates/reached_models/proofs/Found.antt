-- A table has a row that passes a test, or none does.
use Rattle.reached_models.proofs.Prelude.{◌≡◌, ℕ, Bool, true, false, List, [], ◌∷◌, Some, refl, ap, ◌∙◌, ◌⊎◌, inl, inr, Table, get, all_where, lists, none_all_where, first_listed, listed_passes}

-- a number whose row passes
pub record Found {X : Type 0} (p : ℕ → X → Bool) (t : Table X) : Type 0 where
  pub number : ℕ
  pub row : X
  pub at : get t number ≡ Some row
  pub passes : p number row ≡ true

abbrev pub NonePasses : {X : Type 0} → (ℕ → X → Bool) → Table X → Type 0
NonePasses {X = X} p t = (q : ℕ) (y : X) → get t q ≡ Some y → p q y ≡ false

pub found_or_none : {X : Type 0} (p : ℕ → X → Bool) (t : Table X) → Found p t ⊎ NonePasses p t
found_or_none {X = X} p t = by_list (all_where p t) refl where
  by_list : (ns : List ℕ) → all_where p t ≡ ns → Found p t ⊎ NonePasses p t
  by_list [] e = inr (none_all_where p t e)
  by_list (n ∷ ns) e = let w = listed_passes p t n (ap (λ xs. lists xs n) e ∙ first_listed n ns) in inl (record { number = n; row = w.0; at = w.1; passes = w.2 })
