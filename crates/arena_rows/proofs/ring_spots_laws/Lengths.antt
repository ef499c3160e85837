-- How many items a ring has, counted by a walk round it.
use Rattle.arena_rows.proofs.Prelude.{◌≡◌, ◌≢◌, ℕ, ◌+◌, ◌≤◌, true, cond, List, [], ◌∷◌, length, sym, ap, subst, ◌∙◌, arith, eq-eqb, ne_eqb, eqb, walk_to, rotate_to, length-rotate_to, orbit_from, walk_to_more, Spots, codes, live, next, ring, AreRings, length_below}

-- after i items the walk from a stands at p, and has at most n to go
abbrev pub Counted : Spots → ℕ → ℕ → ℕ → ℕ → Type 0
Counted sp a p i n = length (ring sp a) ≡ i + length (walk_to (next sp) a p n)

-- before the first item none is counted
pub counted_none : (sp : Spots) (R : AreRings sp) (a n : ℕ) → live sp a ≡ true → n ≡ codes → Counted sp a a 0 n
counted_none sp R a n there e =
    let o = R.rings a there in
    let w : walk_to (next sp) a a n ≡ rotate_to a (ring sp a) = orbit_from (next sp) a (ring sp a) n o.leads o.apart o.item (omega (arith, length_below codes (ring sp a) o.apart (λ x i. R.bound x (o.awake x i)))) in
    let same : length (walk_to (next sp) a a n) ≡ length (ring sp a) = ap length w ∙ length-rotate_to a (ring sp a) in
    omega (arith, same)

-- the walk with the item at p
counted_here : (sp : Spots) (a p i n k : ℕ) → n ≡ k + 1 → Counted sp a p i n → length (ring sp a) ≡ i + length (p ∷ cond (eqb (next sp p) a) [] (walk_to (next sp) a (next sp p) k))
counted_here sp a p i n k e c = c ∙ ap (λ (w : List ℕ). i + length w) (walk_to_more (next sp) a p n k e)

-- where the walk is back at a with the next item, all are counted with it
pub counted_all : (sp : Spots) (a p x i n k : ℕ) → n ≡ k + 1 → Counted sp a p i n → next sp p ≡ x → x ≡ a → length (ring sp a) ≡ i + 1
counted_all sp a p x i n k e c to back =
    counted_here sp a p i n k e c ∙ ap (λ b. i + length (p ∷ cond b [] (walk_to (next sp) a (next sp p) k))) (eq-eqb (next sp p) a (to ∙ back))

-- where it is not, one more item is counted
pub counted_more : (sp : Spots) (a p x i n k : ℕ) → n ≡ k + 1 → Counted sp a p i n → next sp p ≡ x → x ≢ a → Counted sp a x (i + 1) k
counted_more sp a p x i n k e c to on =
    let whole : length (ring sp a) ≡ i + length (p ∷ walk_to (next sp) a (next sp p) k) =
    counted_here sp a p i n k e c ∙ ap (λ b. i + length (p ∷ cond b [] (walk_to (next sp) a (next sp p) k))) (ne_eqb (next sp p) a (λ q. on (sym to ∙ q))) in
    subst (λ z. Counted sp a z (i + 1) k) to (omega (arith, whole))

-- while the walk has an item to go, one more than is counted is there
pub counted_some : (sp : Spots) (a p i n k : ℕ) → n ≡ k + 1 → Counted sp a p i n → i + 1 ≤ length (ring sp a)
counted_some sp a p i n k e c = omega (arith, counted_here sp a p i n k e c)

-- where the walk has none to go, all are counted
pub counted_over : (sp : Spots) (a p i n : ℕ) → n ≡ 0 → Counted sp a p i n → length (ring sp a) ≡ i
counted_over sp a p i n e c = let whole = c ∙ ap (λ k. i + length (walk_to (next sp) a p k)) e in omega (arith, whole)
