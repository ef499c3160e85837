-- What walks have counted: joined, turned, and how much it can be.
use Rattle.solid_measure.proofs.Prelude.{◌≡◌, ℕ, ◌+◌, ◌≤◌, Bool, true, false, cond, List, [], ◌∷◌, ◌++◌, refl, sym, ap, ◌∙◌, arith, IsIn, IsApart, IsRotation, is_first, Model, LoopContent, lone, cycle, items_of, content, Sound, Has, is_lone, items_in, leads, Met, together, nothing, IsFew, half_met, halves_met, loop_met, loops_met, AreHalves, halves_short, different_items, loops_short}
use Rattle.solid_measure.proofs.solid_counts_laws.HowMany.{how_many, how_many-append, how_many_short}

same_met : (a b : Met) → a.vertices ≡ b.vertices → a.edges ≡ b.edges → a ≡ b
same_met a b v e = λ i. record { vertices = v i; edges = e i }

pub together_more : (a b c : Met) → together (together a b) c ≡ together a (together b c)
together_more a b c = same_met _ _ (omega arith) (omega arith)

together_turned : (a b : Met) → together a b ≡ together b a
together_turned a b = same_met _ _ (omega arith) (omega arith)

pub together_nothing : (a : Met) → together a nothing ≡ a
together_nothing a = same_met _ _ (omega arith) (omega arith)

pub nothing_together : (a : Met) → together nothing a ≡ a
nothing_together a = same_met _ _ (omega arith) (omega arith)

-- ---- half-edges

halves-append : (M : Model) (hs ks : List ℕ) → halves_met M (hs ++ ks) ≡ together (halves_met M hs) (halves_met M ks)
halves-append M [] ks = sym (nothing_together (halves_met M ks))
halves-append M (h ∷ hs) ks = ap (together (half_met M h)) (halves-append M hs ks) ∙ sym (together_more (half_met M h) (halves_met M hs) (halves_met M ks))

pub halves_push : (M : Model) (hs : List ℕ) (h : ℕ) → halves_met M (hs ++ h ∷ []) ≡ together (halves_met M hs) (half_met M h)
halves_push M hs h = halves-append M hs (h ∷ []) ∙ ap (together (halves_met M hs)) (together_nothing (half_met M h))

-- it doesn't depend on where the walk starts
pub halves_turned : (M : Model) (hs ks : List ℕ) → IsRotation hs ks → halves_met M hs ≡ halves_met M ks
halves_turned M hs ks r =
    ap (halves_met M) r.here ∙ halves-append M r.front r.back ∙ together_turned (halves_met M r.front) (halves_met M r.back) ∙ sym (halves-append M r.back r.front) ∙ sym (ap (halves_met M) r.there)

pub halves_are : (M : Model) (hs : List ℕ) → ((halves_met M hs).vertices ≡ how_many (leads M) hs) × ((halves_met M hs).edges ≡ how_many is_first hs)
halves_are M [] = (refl, refl)
halves_are M (h ∷ hs) = let r = halves_are M hs in (ap (λ n. cond (leads M h) 1 0 + n) r.0, ap (λ n. cond (is_first h) 1 0 + n) r.1)

pub half_few : (M : Model) (h : ℕ) → IsFew (half_met M h)
half_few M h = (few (leads M h), few (is_first h)) where
  few : (b : Bool) → cond b 1 0 ≤ 4000000
  few true = omega arith
  few false = omega arith

pub halves_few : (M : Model) → Sound M → (hs : List ℕ) → AreHalves M hs → IsFew (halves_met M hs)
halves_few M sound hs a =
    let r = halves_are M hs in let l = halves_short M sound hs a in
    (omega (arith, r.0, l, how_many_short (leads M) hs), omega (arith, r.1, l, how_many_short is_first hs))

-- ---- loops

abbrev pub is_lone_loop : Model → ℕ → Bool
is_lone_loop M l = is_lone (content M l)

pub loops-append : (M : Model) (ls ks : List ℕ) → loops_met M (ls ++ ks) ≡ together (loops_met M ls) (loops_met M ks)
loops-append M [] ks = sym (nothing_together (loops_met M ks))
loops-append M (l ∷ ls) ks = ap (together (loop_met M (content M l))) (loops-append M ls ks) ∙ sym (together_more (loop_met M (content M l)) (loops_met M ls) (loops_met M ks))

one_loop : (M : Model) (c : LoopContent) → ((loop_met M c).vertices ≡ cond (is_lone c) 1 0 + how_many (leads M) (items_of c)) × ((loop_met M c).edges ≡ how_many is_first (items_of c))
one_loop M (lone v) = (refl, refl)
one_loop M (cycle hs) = let r = halves_are M hs in (omega (arith, r.0), r.1)

-- what loops count for: the lone ones and the half-edges that lead; the plus half-edges
pub loops_are : (M : Model) (ls : List ℕ) →
    ((loops_met M ls).vertices ≡ how_many (is_lone_loop M) ls + how_many (leads M) (items_in M ls)) × ((loops_met M ls).edges ≡ how_many is_first (items_in M ls))
loops_are M [] = (refl, refl)
loops_are M (l ∷ ls) =
    let r = loops_are M ls in let o = one_loop M (content M l) in (
      omega (arith, r.0, o.0, how_many-append (leads M) (items_of (content M l)) (items_in M ls)),
      omega (arith, r.1, o.1, how_many-append is_first (items_of (content M l)) (items_in M ls)),
    )

pub loops_few : (M : Model) → Sound M → (ls : List ℕ) → IsApart ls → ((l : ℕ) → IsIn l ls → Has M.loops l) → IsFew (loops_met M ls)
loops_few M sound ls a t =
    let r = loops_are M ls in let hs = items_in M ls in
    let l = loops_short M sound ls a t in let k = halves_short M sound hs (different_items M sound ls a) in (
      omega (arith, r.0, l, k, how_many_short (is_lone_loop M) ls, how_many_short (leads M) hs),
      omega (arith, r.1, k, how_many_short is_first hs),
    )
