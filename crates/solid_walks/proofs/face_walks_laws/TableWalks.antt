-- The numbers of a table, as a walk from each to the next meets them.
use Rattle.solid_walks.proofs.Prelude.{◌≡◌, ℕ, Bool, true, false, List, [], ◌∷◌, map, Option, Some, None, is_some, refl, sym, ap, subst, ◌∙◌, true≢false, Table, get, has, numbers, all_in, all_where, lists, strictly_rises, same_truth, all_where-rises, listed_as, listed_passes, rises_apart, rises_on}
use Rattle.solid_walks.proofs.face_walks_laws.Above.{member, lists_member, Rising, all_above_members}

-- whether the row is there and passes a test
abbrev pub passes : {X : Type 0} → (ℕ → X → Bool) → ℕ → Option X → Bool
passes p k None = false
passes p k (Some x) = p k x

rises : (ks : List ℕ) → strictly_rises ks ≡ true → Rising ks
rises [] up = tt
rises (k ∷ ks) up = (all_above_members k ks (λ q m. rises_apart k q ks up (lists_member ks q ∙ m)), rises ks (rises_on k ks up))

module _ {X : Type 0} (p : ℕ → X → Bool) where
  pub rising_passing : (t : Table X) → Rising (all_where p t)
  rising_passing t = rises (all_where p t) (all_where-rises p t)

  pub member_passing : (t : Table X) (k : ℕ) → member k (all_where p t) ≡ passes p k (get t k)
  member_passing t k = sym (lists_member (all_where p t) k) ∙ listed (get t k) refl where
    listed : (o : Option X) → get t k ≡ o → lists (all_where p t) k ≡ passes p k o
    listed None none = same_truth _ false (λ l. sym (ap is_some none) ∙ ap is_some (listed_passes p t k l).1) (λ e. absurd (true≢false (sym e)))
    listed (Some x) at = listed_as p t k x at

module _ {X : Type 0} where
  -- all numbers, as those whose rows pass a test that each does
  all_numbers : (t : Table X) → all_where (λ _ _. true) t ≡ numbers t
  unfolding all_where
  all_numbers t = all_keys t.rows where
    all_keys : (es : List (ℕ × X)) → all_in (λ _ _. true) es ≡ map (λ e. e.0) es
    all_keys [] = refl
    all_keys (e ∷ es) = ap (λ ks. e.0 ∷ ks) (all_keys es)

  pub rising_numbers : (t : Table X) → Rising (numbers t)
  rising_numbers t = subst Rising (all_numbers t) (rising_passing (λ _ _. true) t)

  pub member_numbers : (t : Table X) (k : ℕ) → member k (numbers t) ≡ has t k
  member_numbers t k = ap (member k) (sym (all_numbers t)) ∙ member_passing (λ _ _. true) t k ∙ there (get t k) where
    there : (o : Option X) → passes (λ _ _. true) k o ≡ is_some o
    there None = refl
    there (Some x) = refl
