-- A list laid over another, item by item.
use Rattle.session_slots.proofs.Prelude.{◌≡◌, ◌∙◌, ℕ, zero, suc, ◌+◌, List, [], ◌∷◌, ◌++◌, length, map, slice_set, refl, sym, ap, subst, arith, map-id, length-map, IsRotation, rotate_to, items_of, content, rotate_to-rotates, length-rotate_to, IsRotation-refl, laid_over, laid_at, WritesOne, WritesFrom, AreHalfEdges, AreTold}
use Rattle.euler_operators.specs.Common.{Model}

pub laid_none : {X : Type 0} (old : List X) → laid_over [] old ≡ old
laid_none [] = refl
laid_none (o ∷ old) = refl

laid_more : {X : Type 0} (xs : List X) (x : X) (old : List X) → slice_set (laid_over xs old) (length xs) x ≡ laid_over (xs ++ x ∷ []) old
laid_more {X} (y ∷ xs) x (o ∷ old) = ap (λ (zs : List X). y ∷ zs) (laid_more xs x old)
laid_more [] x (o ∷ []) = refl
laid_more xs x old = refl

-- the same from place n on
pub none_at : {X : Type 0} (n : ℕ) (old : List X) → laid_at n [] old ≡ old
none_at zero old = laid_none old
none_at (suc n) [] = refl
none_at {X} (suc n) (o ∷ old) = ap (λ (zs : List X). o ∷ zs) (none_at n old)

pub more_at : {X : Type 0} (n : ℕ) (xs : List X) (x : X) (old : List X) → slice_set (laid_at n xs old) (n + length xs) x ≡ laid_at n (xs ++ x ∷ []) old
more_at {X} zero xs x old = let e : 0 + length xs ≡ length xs = omega arith in ap (λ k. slice_set (laid_over xs old) k x) e ∙ laid_more xs x old
more_at (suc n) xs x [] = refl
more_at {X} (suc n) xs x (o ∷ old) =
    let e : suc n + length xs ≡ suc (n + length xs) = omega arith in ap (λ k. slice_set (o ∷ laid_at n xs old) k x) e ∙ ap (λ (zs : List X). o ∷ zs) (more_at n xs x old)

-- one list laid behind another is both laid over
pub laid_behind : {X : Type 0} (ws xs old : List X) → laid_at (length ws) xs (laid_over ws old) ≡ laid_over (ws ++ xs) old
laid_behind {X} [] xs old = ap (λ (zs : List X). laid_over xs zs) (laid_none old)
laid_behind (w ∷ ws) xs [] = refl
laid_behind {X} (w ∷ ws) xs (o ∷ old) = ap (λ (zs : List X). w ∷ zs) (laid_behind ws xs old)

module _ {X : Type 0} (f : Model → ℕ → X) (M : Model) (l from : ℕ) where
  -- an empty ring has one list, and nothing is written
  pub writes_none : (old : List X) → items_of (content M l) ≡ [] → WritesFrom (AreTold f l M) from old old from
  writes_none old none = ([], ([], subst (λ (hs : List ℕ). IsRotation hs []) (sym none) (IsRotation-refl []), refl), omega arith, sym (none_at from old))

  -- a ring is written from h on
  pub writes_from : (h : ℕ) (cycle : List ℕ) (old new : List X) (n : ℕ) → cycle ≡ items_of (content M l) → n ≡ from + length cycle → new ≡ laid_at from (map (f M) (rotate_to h cycle)) old
      → WritesFrom (AreTold f l M) from old new n
  writes_from h cycle old new n is counted laid =
      let turned = subst (λ (hs : List ℕ). IsRotation hs (rotate_to h cycle)) is (rotate_to-rotates h cycle) in
      (map (f M) (rotate_to h cycle), (rotate_to h cycle, turned, refl), counted ∙ ap (λ k. from + k) (sym (length-rotate_to h cycle) ∙ sym (length-map (rotate_to h cycle) (f M))), laid)

-- each told as it is, they are the list itself
pub writes_same : (M : Model) (l : ℕ) (old new : List ℕ) (n : ℕ) → WritesFrom (AreTold (λ N h. h) l M) 0 old new n → WritesOne (AreHalfEdges l M) old new n
writes_same M l old new n w = (w.0, subst (AreHalfEdges l M) (sym (w.1.2 ∙ map-id w.1.0)) w.1.1, omega (arith, w.2), w.3)

pub same_none : (M : Model) (l : ℕ) (old : List ℕ) → items_of (content M l) ≡ [] → WritesOne (AreHalfEdges l M) old old 0
same_none M l old none = writes_same M l old old 0 (writes_none (λ N h. h) M l 0 old none)
