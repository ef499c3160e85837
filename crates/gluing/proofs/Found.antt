-- A search for the half-edge of a face's outer loop that starts at a point.
use Rattle.gluing.proofs.Prelude.{◌≡◌, ℕ, Bool, true, false, List, [], ◌∷◌, Option, Some, None, is_some, refl, arith, option_map, eqb_tells, IsIn, Model, LoopContent, lone, cycle, items_of, content, outer, Sound, HasHalf, is_lone, tick_other, in-holds, first_such, rim}

pub rim_held : (c : LoopContent) (h : ℕ) → IsIn h (items_of c) → is_lone c ≡ false
rim_held (lone v) h i = absurd (omega (arith, i))
rim_held (cycle hs) h i = refl

pub rim_there : (M : Model) → Sound M → (f h : ℕ) → IsIn h (rim M f) → HasHalf M h
rim_there M sound f h i = sound.only_edges h (outer M f) (in-holds h (content M (outer M f)) i)

-- a search finds something where a number of the list passes
pub is_found : (test : ℕ → Bool) (ks : List ℕ) (k : ℕ) → IsIn k ks → test k ≡ true → is_some (first_such test ks) ≡ true
is_found test [] k i t = absurd (omega (arith, i))
is_found test (n ∷ ks) k i t = grind (arith, i, t, eqb_tells k n, tick_other k n, is_found test ks k)

pub some_mapped : {A : Type 0} (f : A → ℕ) (o : Option A) → is_some (option_map f o) ≡ true → is_some o ≡ true
some_mapped f None e = e
some_mapped f (Some x) e = refl
