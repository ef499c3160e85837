-- What an iterator that is seen as the list of what is to come yields stands in that list.
use Rattle.solid_walks.proofs.Prelude.{◌≡◌, ℕ, List, [], ◌∷◌, length, Some, refl, sym, ap, subst, ◌∙◌, arith, count, IsIn, tick_same}
use Rattle.std.specs.Iterator.{Yields, YieldsFirstBy, CallableAtEachTurn, MakesProgress, item_count}
use Rattle.std.proofs.lemmas.Fn.{serves_by}

module _ {A : Type 0} (code : A → ℕ) where
  pub yielded_in : (xs : List A) (s t u : List ℕ) (x : A) → Yields (YieldsFirstBy code (λ left. left)) s xs t → t ≡ code x ∷ u → IsIn (code x) s
  yielded_in [] s t u x y e = omega (arith, ap (count (code x)) (y ∙ e), tick_same (code x))
  yielded_in (z ∷ zs) s t u x y e = omega (arith, ap (count (code x)) y.1, yielded_in zs y.0 t u x y.2 e)

  -- a closure may be called at each item, by what holds of all numbers in the list
  pub serves_listed : {F : Type 0} {R : F → A → F → Type 0} {Q : F → A → Type 0} {f : F} (s : List ℕ) → ((x : A) (q : F) → R f x q → q ≡ f) → ((x : A) → IsIn (code x) s → Q f x) → CallableAtEachTurn (YieldsFirstBy code (λ left. left)) R Q s f
  serves_listed {F} {R} {Q} {f} s stays asks = serves_by R (λ _ q. q ≡ f) (λ xs q x w j r. stays x w (subst (λ k. R k x w) j r)) (YieldsFirstBy code (λ left. left)) Q s f refl
      (λ xs t q x u y e j. subst (λ k. Q k x) (sym j) (asks x (yielded_in xs s t u x y e)))

  -- and one that has given the first of what was to come has less to come
  pub goes_on : {can : List ℕ → Type 0} → ((s : List ℕ) → can s) → (s t : List ℕ) (x : A) → s ≡ code x ∷ t → MakesProgress can (item_count (λ left. left)) s (Some x) t
  goes_on always s t x e = record { on = λ finite. (always t, finite, omega (arith, ap length e)); keeps = always t; rests = λ _. tt }

  -- the same of a closure that also takes what it returned last
  pub serves_folding : {F B : Type 0} {R : F × B → A → F × B → Type 0} {Q : F × B → A → Type 0} {f : F} {b : B} (s : List ℕ) → ((a : B) (x : A) (q : F × B) → R (f, a) x q → q.0 ≡ f) → ((a : B) (x : A) → IsIn (code x) s → Q (f, a) x) → CallableAtEachTurn {P = F × B} (YieldsFirstBy code (λ left. left)) R Q s (f, b)
  serves_folding {F} {B} {R} {Q} {f} {b} s stays asks = serves_by R (λ _ q. q.0 ≡ f) (λ xs q x w j r. stays q.1 x w (subst (λ k. R (k, q.1) x w) j r)) (YieldsFirstBy code (λ left. left)) Q s (f, b) refl
      (λ xs t q x u y e j. subst (λ k. Q (k, q.1) x) (sym j) (asks q.1 x (yielded_in xs s t u x y e)))
