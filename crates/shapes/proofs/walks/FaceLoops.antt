-- The loops of a face, and the half-edges of some loops, are different ones; and the items of loops start at their vertices.
use Rattle.shapes.proofs.Prelude.{◌≡◌, ℕ, ◌≤◌, ◌<◌, Bool, true, false, not, nat_eq, ◌&&◌, List, [], ◌∷◌, ◌++◌, length, Some, is_some, refl, sym, ap, ◌∙◌, arith, true≢false, inl, inr, unwrap_or, append_assoc, nat_tests, eqb_tells, count, tick, IsIn, IsApart, Model, LoopContent, lone, cycle, LoopRow, no_loop, items_of, content, tail, loop_of, outer, face_of, rings_of, is_ring_of, Sound, HasHalf, lists, strictly_rises, count-append, tick_same, tick_other, IsIn_or_not, IsIn-map, length_below, in-holds, row_some, listed_passes, passes_listed, all_where-rises, ring_there, steps, steps_are, half_below, none_counted, counted_once, up_to, up_to_none, count_up_to, half_in, items_apart, items_in, loops_of, vertices_on, vertices_in}
use Rattle.euler_operators.specs.Table as table

-- the outer loop of a face and its rings that don't pass n
abbrev pub loops_to : Model → ℕ → ℕ → List ℕ
loops_to M f n = outer M f ∷ up_to n (rings_of M f)

-- different half-edges that are there
pub record AreHalves (M : Model) (hs : List ℕ) : Type 0 where
  pub apart : IsApart hs
  pub there : (x : ℕ) → IsIn x hs → HasHalf M x

pub halves_short : (M : Model) → Sound M → (hs : List ℕ) → AreHalves M hs → length hs ≤ 2000002
halves_short M sound hs a = omega (arith, steps_are, length_below steps hs a.apart (λ x i. half_below M sound x (a.there x i)))

pub items_joined : (M : Model) (ls ks : List ℕ) → items_in M (ls ++ ks) ≡ items_in M ls ++ items_in M ks
items_joined M [] ks = refl
items_joined M (l ∷ ls) ks = ap (λ xs. items_of (content M l) ++ xs) (items_joined M ls ks) ∙ sym (append_assoc (items_of (content M l)) (items_in M ls) (items_in M ks))

module _ (M : Model) where
  -- the items of a loop start at its vertices
  tail_on : (h : ℕ) (c : LoopContent) → IsIn h (items_of c) → IsIn (tail M h) (vertices_on M c)
  tail_on h (lone v) i = absurd (omega arith)
  tail_on h (cycle hs) i = IsIn-map (tail M) h hs i

  pub tail_in : (h l : ℕ) (ls : List ℕ) → IsIn l ls → IsIn h (items_of (content M l)) → IsIn (tail M h) (vertices_in M ls)
  tail_in h l [] i j = absurd (omega arith)
  tail_in h l (k ∷ ls) i j = grind (arith, eqb_tells, tail_on, count-append, tick_other, tail_in h l ls)

module _ (M : Model) (sound : Sound M) where
  one_item : (l x : ℕ) → count x (items_of (content M l)) ≤ tick (loop_of M x) l
  one_item l x = elim (IsIn_or_not x (items_of (content M l))) [
    | inl i ↦ let e = sound.one_loop x l (in-holds x (content M l) i) in omega (arith, items_apart M sound l x i x, ap (λ k. tick k l) e, tick_same l)
    | inr z ↦ omega (arith, z)
  ]

  -- a half-edge stands no more often in some loops than its loop among them
  pub items_counted : (ls : List ℕ) (x : ℕ) → count x (items_in M ls) ≤ count (loop_of M x) ls
  items_counted [] x = omega arith
  items_counted (l ∷ ls) x = omega (arith, count-append x (items_of (content M l)) (items_in M ls), one_item l x, items_counted ls x)

  pub items_there : (ls : List ℕ) (x : ℕ) → IsIn x (items_in M ls) → HasHalf M x
  items_there [] x i = absurd (omega arith)
  items_there (l ∷ ls) x i = grind (arith, IsIn_or_not, half_in, count-append, items_there ls x)

  pub different_items : (ls : List ℕ) → IsApart ls → AreHalves M (items_in M ls)
  different_items ls a = record { apart = λ x. omega (arith, items_counted ls x, a (loop_of M x)); there = items_there ls }

  module _ (f : ℕ) where
    ring_row : (l : ℕ) (row : LoopRow) → table.get M.loops l ≡ Some row → (nat_eq row.face f && not (nat_eq (outer M f) l)) ≡ is_ring_of M f l
    unfolding face_of
    ring_row l row e = sym (λ i. is_some (e i) && nat_eq ((unwrap_or (e i) no_loop).face) f && not (nat_eq (outer M f) l))

    pub listed_ring : (l : ℕ) → lists (rings_of M f) l ≡ true → is_ring_of M f l ≡ true
    listed_ring l i = let r = listed_passes (λ l row. nat_eq row.face f && not (nat_eq (outer M f) l)) M.loops l i in sym (ring_row l r.0 r.1) ∙ r.2

    pub ring_listed : (l : ℕ) → is_ring_of M f l ≡ true → lists (rings_of M f) l ≡ true
    ring_listed l e = let r = row_some (table.get M.loops l) (ring_there M f l e).0 in passes_listed (λ l row. nat_eq row.face f && not (nat_eq (outer M f) l)) M.loops l r.0 r.1 (ring_row l r.0 r.1 ∙ e)

    pub rings_rise : strictly_rises (rings_of M f) ≡ true
    rings_rise = all_where-rises (λ l row. nat_eq row.face f && not (nat_eq (outer M f) l)) M.loops

    not_outer : lists (rings_of M f) (outer M f) ≡ false
    not_outer = never_listed (lists (rings_of M f) (outer M f)) refl where
      no_ring : (a : Bool) → (a && not (nat_eq (outer M f) (outer M f))) ≡ true → ⊥
      no_ring true e = let s : nat_eq (outer M f) (outer M f) ≡ true = grind (arith, nat_tests) in true≢false (sym e ∙ ap not s)
      no_ring false e = true≢false (sym e)

      never_listed : (b : Bool) → lists (rings_of M f) (outer M f) ≡ b → b ≡ false
      never_listed true e = absurd (no_ring (table.has M.loops (outer M f) && nat_eq (face_of M (outer M f)) f) (listed_ring (outer M f) e))
      never_listed false e = refl

    pub loops_apart : (n : ℕ) → IsApart (loops_to M f n)
    loops_apart n x = grind (arith, eqb_tells, tick_same, count_up_to, none_counted, not_outer, tick_other, counted_once, rings_rise)

    pub loops_of_apart : IsApart (loops_of M f)
    unfolding loops_of
    loops_of_apart x = grind (arith, eqb_tells, tick_same, none_counted, not_outer, tick_other, counted_once, rings_rise)

    ring_positive : (l : ℕ) → lists (rings_of M f) l ≡ true → 0 < l
    ring_positive l i = grind (arith, sound.loops_fit l, ring_there M f l (listed_ring l i), listed_ring l i, nat_tests)

    pub loops_none : loops_to M f 0 ≡ outer M f ∷ []
    loops_none = ap (λ ls. outer M f ∷ ls) (up_to_none 0 (rings_of M f) ring_positive)
