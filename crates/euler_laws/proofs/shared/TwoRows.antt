-- The rows of two loops changed, or of one, and all other rows stayed, while one edge came or went: what stands where afterwards.
use Rattle.euler_laws.proofs.Prelude.{◌≡◌, ◌≢◌, ℕ, zero, suc, ◌+◌, ◌≤◌, List, Option, Some, is_some, refl, sym, ap, ◌∙◌, subst, arith, ◌⊎◌, inl, inr, eqb_tells, count, IsIn, IsRing, mate, edge_of, Model, LoopContent, lone, cycle, LoopRow, items_of, holds, tail, loop_of, content, face_of, after, Sound, Has, HasHalf, StandsIn, edge_of-mate, never_lone, mate_there, in-holds, holds_in, held_row, content_row, face_row, same_content, same_face, get-put_here, get-put_other}
use Rattle.euler_operators.specs.Table as table
use Rattle.euler_laws.proofs.shared.Fans.{Fan}
use Rattle.euler_laws.proofs.shared.Loops.{IsLoop, loop_sound, Walks, loop_at}
use Rattle.euler_laws.proofs.shared.Same.{solid_at}
use Rattle.euler_laws.proofs.shared.Parts.{set_row, set_here, set_other}
use Rattle.euler_laws.proofs.shared.EdgeMore as more
use Rattle.euler_laws.proofs.shared.EdgeLess as less
use Rattle.euler_laws.proofs.shared.EdgeLess.{OneLess, of_edge}

-- ---- the row of loop r changed, and loop l put or taken away

pub record RowsSet (M N : Model) (r l : ℕ) (first : LoopRow) (second : Option LoopRow) : Type 0 where
  pub are : N.loops ≡ set_row (table.put M.loops r first) l second
  pub apart : r ≢ l
  pub there : Has M.loops r
  pub face : first.face ≡ face_of M r

module _ {M N : Model} {r l : ℕ} {first : LoopRow} {second : Option LoopRow} (set : RowsSet M N r l first second) where
  pub row_first : table.get N.loops r ≡ Some first
  row_first = ap (λ t. table.get t r) set.are ∙ set_other (table.put M.loops r first) l second r set.apart ∙ get-put_here M.loops r first

  pub row_second : table.get N.loops l ≡ second
  row_second = ap (λ t. table.get t l) set.are ∙ set_here (table.put M.loops r first) l second

  pub row_else : (q : ℕ) → q ≢ r → q ≢ l → table.get N.loops q ≡ table.get M.loops q
  row_else q a b = ap (λ t. table.get t q) set.are ∙ set_other (table.put M.loops r first) l second q b ∙ get-put_other M.loops r first q a

  pub content_first : content N r ≡ first.content
  content_first = content_row N r first row_first

  pub face_same : (q : ℕ) → q ≢ l → face_of N q ≡ face_of M q
  face_same q a = grind (arith, face_row N r first row_first, same_face M N q, row_else q)

  pub has_same : (q : ℕ) → q ≢ l → table.has N.loops q ≡ table.has M.loops q
  has_same q a = grind (arith, row_first, row_else)

-- ---- what two loops hold together

-- one of the two numbers, or neither
abbrev pub OneOf : ℕ → ℕ → ℕ → Type 0
OneOf r s q = (q ≡ r) ⊎ (q ≡ s)

abbrev pub Neither : ℕ → ℕ → ℕ → Type 0
Neither r s q = (q ≢ r) × (q ≢ s)

pub which : (r s q : ℕ) → OneOf r s q ⊎ Neither r s q
which r s q = elim (eqb_tells q r) [ inl a ↦ inl (inl a.1) | inr a ↦ elim (eqb_tells q s) [ inl b ↦ inl (inr b.1) | inr b ↦ inr (a.1, b.1) ] ]

-- how often x stands in the two loops together
abbrev pub in_both : Model → ℕ → ℕ → ℕ → ℕ
in_both X r s x = count x (items_of (content X r)) + count x (items_of (content X s))

pub stands_both : (X : Model) (r s x q : ℕ) → OneOf r s q → StandsIn X x q → 1 ≤ in_both X r s x
stands_both X r s x q o t = grind (arith, holds_in)

pub both_stand : (X : Model) (r s x : ℕ) → 1 ≤ in_both X r s x → (q : ℕ) × OneOf r s q × StandsIn X x q
both_stand X r s x i = grind (arith, in-holds x (content X r), in-holds x (content X s))

some_or_none : (n : ℕ) → (1 ≤ n) ⊎ (n ≡ 0)
some_or_none zero = inr refl
some_or_none (suc n) = inl (omega arith)

-- but for edge e the loops r and s hold together what they held, each half-edge in one of them; what e has stands in the two
pub record TwoRows (M N : Model) (e r s : ℕ) : Type 0 where
  pub other_content : (q : ℕ) → Neither r s q → content N q ≡ content M q
  pub other_loop : (q : ℕ) → Neither r s q → table.has N.loops q ≡ table.has M.loops q
  pub other_edge : (d : ℕ) → d ≢ e → table.has N.edges d ≡ table.has M.edges d
  pub others : (x : ℕ) → edge_of x ≢ e → in_both N r s x ≡ in_both M r s x
  pub once : (x : ℕ) → StandsIn N x r → StandsIn N x s → r ≡ s
  pub stood : (x : ℕ) → edge_of x ≡ e → HasHalf M x → 1 ≤ in_both M r s x
  pub stands : (x : ℕ) → edge_of x ≡ e → HasHalf N x → 1 ≤ in_both N r s x
  pub there : (x : ℕ) → edge_of x ≡ e → 1 ≤ in_both N r s x → HasHalf N x

module _ {M N : Model} {e r s : ℕ} (sound : Sound M) (rows : TwoRows M N e r s) where
  stood_other : (x q : ℕ) → Neither r s q → StandsIn N x q → StandsIn M x q
  stood_other x q n t = ap (holds x) (sym (rows.other_content q n)) ∙ t

  half_back : (x : ℕ) → edge_of x ≢ e → HasHalf N x → HasHalf M x
  half_back x a t = sym (rows.other_edge (edge_of x) a) ∙ t

  -- what stood in the two has one of them as its loop
  old_loop : (x : ℕ) → 1 ≤ in_both M r s x → OneOf r s (loop_of M x)
  old_loop x i = let t = both_stand M r s x i in elim t.1 [ inl a ↦ inl (sound.one_loop x t.0 t.2 ∙ a) | inr a ↦ inr (sound.one_loop x t.0 t.2 ∙ a) ]

  -- what stood in another loop is there, of another edge, and stood not in the two
  elsewhere : (x q : ℕ) → Neither r s q → StandsIn M x q → HasHalf M x × (edge_of x ≢ e) × (1 ≤ in_both M r s x → ⊥)
  elsewhere x q n t =
      let o = sound.only_edges x q t in
      let never : 1 ≤ in_both M r s x → ⊥ = λ i. elim (old_loop x i) [ inl a ↦ n.0 (sym (sound.one_loop x q t) ∙ a) | inr a ↦ n.1 (sym (sound.one_loop x q t) ∙ a) ] in
      (o, λ a. never (rows.stood x a o), never)

  pub only : (x q : ℕ) → StandsIn N x q → HasHalf N x
  only x q t = elim (which r s q) [
    | inl o ↦ let i = stands_both N r s x q o t in elim (eqb_tells (edge_of x) e) [
      | inl a ↦ rows.there x a.1 i
      | inr a ↦ let k = both_stand M r s x (omega (arith, i, rows.others x a.1)) in rows.other_edge (edge_of x) a.1 ∙ (sound.only_edges x k.0 k.2)
    ]
    | inr n ↦ let k = elsewhere x q n (stood_other x q n t) in rows.other_edge (edge_of x) k.1 ∙ k.0
  ]

  same_loop : (x p q : ℕ) → OneOf r s p → OneOf r s q → StandsIn N x p → StandsIn N x q → p ≡ q
  same_loop x p q o k t u = grind arith

  -- what stands in one of the two stands in no other loop
  one_of_two : (x q : ℕ) → OneOf r s q → StandsIn N x q → (p : ℕ) → StandsIn N x p → p ≡ q
  one_of_two x q o t p u = grind (arith, same_loop x p q, elsewhere x p, stood_other x p, stands_both N r s x q o t, rows.others x)

  pub loop_both : (x q : ℕ) → OneOf r s q → StandsIn N x q → loop_of N x ≡ q
  loop_both x q o t = loop_at N x q t (one_of_two x q o t)

  -- each half-edge stands in one of the two, or it is old and stands where it did
  place_cases : (x : ℕ) → HasHalf N x → (1 ≤ in_both N r s x) ⊎ (HasHalf M x × Neither r s (loop_of M x) × (in_both N r s x ≡ 0))
  place_cases x t =
      let one = stands_both M r s x (loop_of M x) in
      grind (arith, some_or_none (in_both N r s x), rows.stands x, half_back x, which r s (loop_of M x), rows.others x, one, sound.stands x)

  stays : (x : ℕ) → HasHalf M x → Neither r s (loop_of M x) → StandsIn N x (loop_of M x)
  stays x o n = ap (holds x) (rows.other_content (loop_of M x) n) ∙ sound.stands x o

  stays_alone : (x : ℕ) → in_both N r s x ≡ 0 → (p : ℕ) → StandsIn N x p → p ≡ loop_of M x
  stays_alone x z p u = grind (arith, stands_both N r s x p, sound.one_loop x p, stood_other x p)

  pub placed : (x : ℕ) → HasHalf N x → (q : ℕ) × StandsIn N x q × ((p : ℕ) → StandsIn N x p → p ≡ q)
  placed x t = grind (arith, place_cases x t, both_stand N r s x, one_of_two x, stays x, stays_alone x)

  -- ---- lone loops, where neither of the two is lone

  pub lone_else : {hs ks : List ℕ} → content N r ≡ cycle hs → content N s ≡ cycle ks → (q v : ℕ) → content N q ≡ lone v → (content M q ≡ lone v) × (q ≢ r) × (q ≢ s)
  lone_else a b q v e = grind (arith, which r s q, never_lone, rows.other_content q)

  pub lone_still : {hs ks : List ℕ} → content M r ≡ cycle hs → content M s ≡ cycle ks → (q v : ℕ) → content M q ≡ lone v → content N q ≡ lone v
  lone_still a b q v e = rows.other_content q (λ p. never_lone _ v (sym a ∙ ap (content M) (sym p) ∙ e), λ p. never_lone _ v (sym b ∙ ap (content M) (sym p) ∙ e)) ∙ e

  -- ---- walks

  -- what stands in other loops only
  abbrev pub Elsewhere : List ℕ → Type 0
  Elsewhere hs = (x : ℕ) → IsIn x hs → HasHalf M x × Neither r s (loop_of M x)

  pub none_elsewhere : (hs : List ℕ) → Elsewhere hs → (x : ℕ) → (HasHalf M x → OneOf r s (loop_of M x)) → count x hs ≡ 0
  none_elsewhere hs each x o = grind arith

  module _ (next : ℕ → ℕ) (two : (q : ℕ) → OneOf r s q → Has N.loops q → IsLoop next (content N q))
      (other : (hs : List ℕ) → Elsewhere hs → IsRing (after M) hs → IsRing next hs) where
    other_loop : (q : ℕ) (c : LoopContent) → Neither r s q → content M q ≡ c → IsLoop (after M) c → IsLoop next c
    other_loop q (lone v) n a l = tt
    other_loop q (cycle hs) n a l = (
      l.0,
      other hs (λ x i.
          let t = in-holds x (content M q) (subst (λ c. IsIn x (items_of c)) (sym a) i) in
          (sound.only_edges x q t, subst (Neither r s) (sym (sound.one_loop x q t)) n)) l.1,
    )

    loops : (q : ℕ) → Has N.loops q → IsLoop next (content N q)
    loops q t = elim (which r s q) [
      | inl o ↦ two q o t
      | inr n ↦ subst (IsLoop next) (sym (rows.other_content q n)) (other_loop q (content M q) n refl (loop_sound M sound q (sym (rows.other_loop q n) ∙ t)))
    ]

    pub walks-rows : ((x : ℕ) → HasHalf N x → Fan next N (tail N x)) → Walks N next
    walks-rows fans = record { only = only; placed = placed; loops = loops; fans = fans }

  -- ---- solids

  loop_there : (X : Model) (x q : ℕ) → StandsIn X x q → Has X.loops q
  loop_there X x q t = ap is_some (held_row X x q t)

  -- where the two loops lie in one solid, before and after, and others where they lay, the two faces of an edge are of one solid
  module _ (side : ℕ) (now : (q : ℕ) → OneOf r s q → Has N.loops q → solid_at N q ≡ side) (old : (q : ℕ) → OneOf r s q → Has M.loops q → solid_at M q ≡ side)
      (other : (q : ℕ) → Neither r s q → Has M.loops q → solid_at N q ≡ solid_at M q) where
    solid_both : (x : ℕ) → 1 ≤ in_both N r s x → solid_at N (loop_of N x) ≡ side
    solid_both x i = let k = both_stand N r s x i in ap (solid_at N) (loop_both x k.0 k.1 k.2) ∙ now k.0 k.1 (loop_there N x k.0 k.2)

    pub solid_old : (x : ℕ) → edge_of x ≢ e → HasHalf N x → solid_at N (loop_of N x) ≡ solid_at M (loop_of M x)
    solid_old x a t = elim (place_cases x t) [
      | inl i ↦ let k = both_stand M r s x (omega (arith, i, rows.others x a)) in
          solid_both x i ∙ sym (old k.0 k.1 (loop_there M x k.0 k.2)) ∙ ap (solid_at M) (sym (sound.one_loop x k.0 k.2))
      | inr o ↦ ap (solid_at N) (loop_at N x (loop_of M x) (stays x o.0 o.1) (stays_alone x o.2)) ∙ other (loop_of M x) o.1 (loop_there M x (loop_of M x) (sound.stands x o.0))
    ]

    pub one_solid-rows : (x : ℕ) → HasHalf N x → solid_at N (loop_of N x) ≡ solid_at N (loop_of N (mate x))
    one_solid-rows x t = let k : HasHalf N (mate x) = mate_there N x t in elim (eqb_tells (edge_of x) e) [
      | inl a ↦ solid_both x (rows.stands x a.1 t) ∙ sym (solid_both (mate x) (rows.stands (mate x) (edge_of-mate x ∙ a.1) k))
      | inr a ↦ solid_old x a.1 t ∙ sound.one_solid x (half_back x a.1 t) ∙ sym (solid_old (mate x) (λ b. a.1 (sym (edge_of-mate x) ∙ b)) k)
    ]

-- ---- where the edge of h is put, and where it is taken away

pub record RowsChange (M N : Model) (h r s : ℕ) : Type 0 where
  pub other_row : (q : ℕ) → q ≢ r → q ≢ s → table.get N.loops q ≡ table.get M.loops q
  pub others : (x : ℕ) → edge_of x ≢ edge_of h → in_both N r s x ≡ in_both M r s x
  pub once : (x : ℕ) → StandsIn N x r → StandsIn N x s → r ≡ s

pub two_rows-more : {M N : Model} {h u w r s : ℕ} → more.OneMore M N h u w → RowsChange M N h r s → 1 ≤ in_both N r s h → 1 ≤ in_both N r s (mate h) → TwoRows M N (edge_of h) r s
two_rows-more {M = M} {N = N} {h = h} {r = r} {s = s} edge rows first second = record {
  other_content = λ q n. same_content M N q (rows.other_row q n.0 n.1);
  other_loop = λ q n. ap is_some (rows.other_row q n.0 n.1);
  other_edge = λ d a. ap is_some (more.edge_other edge d a);
  others = rows.others;
  once = rows.once;
  stood = λ x e t. absurd (more.edge_apart (more.comes edge) x t e);
  stands = λ x e t. of_edge (λ y. 1 ≤ in_both N r s y) h x first second e;
  there = λ x e i. of_edge (HasHalf N) h x (more.half_h (more.comes edge)) (more.half_m (more.comes edge)) e;
}

pub two_rows-less : {M N : Model} {h r s : ℕ} → OneLess M N h → RowsChange M N h r s →
    1 ≤ in_both M r s h → 1 ≤ in_both M r s (mate h) → in_both N r s h ≡ 0 → in_both N r s (mate h) ≡ 0 → TwoRows M N (edge_of h) r s
two_rows-less {M = M} {N = N} {h = h} {r = r} {s = s} edge rows first second gone mate_gone = record {
  other_content = λ q n. same_content M N q (rows.other_row q n.0 n.1);
  other_loop = λ q n. ap is_some (rows.other_row q n.0 n.1);
  other_edge = λ d a. ap is_some (less.edge_other edge d a);
  others = rows.others;
  once = rows.once;
  stood = λ x e t. of_edge (λ y. 1 ≤ in_both M r s y) h x first second e;
  stands = λ x e t. absurd ((less.half_cases edge x t).1 e);
  there = λ x e i. let z : in_both N r s x ≡ 0 = of_edge (λ y. in_both N r s y ≡ 0) h x gone mate_gone e in absurd (omega (arith, i, z));
}
