-- The walk from one of some halves on, each of which leads to one of them, until it is back.
use Rattle.split_sections.proofs.Prelude.{◌≡◌, ℕ, suc, ◌+◌, true, false, cond, ◌==◌, List, [], ◌∷◌, ◌++◌, length, sym, ap, ◌∙◌, arith, append_assoc, append-nil, IsIn, walk_to, orbit}

-- from first the walk has come to h, with n steps left at most
pub record Going (next : ℕ → ℕ) (bs : List ℕ) (first h n : ℕ) (met : List ℕ) : Type 0 where
  pub goes_on : met ++ walk_to next first h n ≡ orbit next first (length bs)
  pub here : IsIn h bs

pub set_out : (next : ℕ → ℕ) (bs : List ℕ) (first n : ℕ) → IsIn first bs → n ≡ length bs → Going next bs first first n []
set_out next bs first n i e = record { goes_on = ap (walk_to next first first) e; here = i }

module _ (next : ℕ → ℕ) (bs : List ℕ) (first h n k : ℕ) (met : List ℕ) (w : Going next bs first h n met) where
  step : n ≡ k + 1 → met ++ (h ∷ cond (next h == first) [] (walk_to next first (next h) k)) ≡ orbit next first (length bs)
  step more = sym (ap (λ i. met ++ walk_to next first h i) (more ∙ plus_one k)) ∙ w.goes_on where
    plus_one : (i : ℕ) → i + 1 ≡ suc i
    plus_one i = omega arith

  pub back : n ≡ k + 1 → (next h == first) ≡ true → (ones : List ℕ) → ones ≡ met ++ h ∷ [] → ones ≡ orbit next first (length bs)
  back more t ones e = e ∙ sym (ap (λ b. met ++ (h ∷ cond b [] (walk_to next first (next h) k))) t) ∙ step more

  pub onward : n ≡ k + 1 → (next h == first) ≡ false → IsIn (next h) bs → (ones : List ℕ) → ones ≡ met ++ h ∷ [] → Going next bs first (next h) k ones
  onward more f i ones e = grind (arith, append_assoc, step)

  pub out_of_steps : n ≡ 0 → met ≡ orbit next first (length bs)
  out_of_steps z = sym (append-nil met) ∙ sym (ap (λ i. met ++ walk_to next first h i) z) ∙ w.goes_on
