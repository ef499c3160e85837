-- Models of which the loops hold half-edges that are there, each once and in one loop: what stays so where one half-edge goes into a
-- loop or leaves one, and where an edge is made.
use Rattle.low_euler.proofs.Prelude.{◌≡◌, ◌≢◌, ℕ, ◌+◌, Bool, true, false, cond, List, [], ◌∷◌, Some, None, refl, sym, ap, ◌∙◌, subst, arith, ◌⊎◌, inl, inr, true≢false, option_map, false_from_ne_true, nat_tests, eqb_tells, count, tick, IsIn, IsApart, canonical, rest, predecessor, put_ring, insert_before, without, mate, edge_of, tables, Model, EdgeRow, LoopContent, cycle, LoopRow, items_of, holds, loop_of, content, face_of, cycle_of, before, tail, Sound, HasHalf, StandsIn, edge_row, where_held, with_before, cycle_or_lone, tick_same, tick_other, tick_le, IsIn_or_not, IsIn_predecessor, count-canonical, canonical_nil, without_none, edge_of-mate, map_one, get-put_other, holds_in, in-holds, holds-none, content_row, held_row, no_row, same_content, same_face, count_out, count_gone, apart_out, light, loop_at, Rewritten, content-new, face-same, count_or_lone, put_in, taken_out, content_none, Store, with_loop, LoopsStandApart, IsStanding, IsLoose, IsUnused, with_edge, put_before, take_out}
use Rattle.euler_operators.specs.Table as table
use Rattle.euler_laws.proofs.shared.Same as same
use Rattle.low_euler.proofs.steps_laws.RingSteps.{count_put}
use Rattle.low_euler.proofs.steps_laws.StoreSteps.{content_written}

-- half-edge h stands in its loop
abbrev pub HasLoop : Model → ℕ → Type 0
HasLoop M h = StandsIn M h (loop_of M h)

pub placed_of : (M : Model) → Sound M → LoopsStandApart M
placed_of M sound = record {
  only = sound.only_edges;
  apart = λ l. (light M sound l).0;
  one_loop = sound.one_loop;
  no_zero = no_row (table.get M.loops 0) (false_from_ne_true (table.has M.loops 0) (λ t. true≢false (sym (sound.loops_fit 0 t))));
}

module _ (M N : Model) (same : N.loops ≡ M.loops) where
  pub content-same : (q : ℕ) → content N q ≡ content M q
  content-same q = same_content M N q (ap (λ t. table.get t q) same)

  pub face_of-same : (q : ℕ) → face_of N q ≡ face_of M q
  face_of-same q = same_face M N q (ap (λ t. table.get t q) same)

  pub loop_of-same : (x : ℕ) → loop_of N x ≡ loop_of M x
  unfolding loop_of
  loop_of-same x = ap (table.first_where (λ _ row. holds x row.content)) same

  pub before-same : (x : ℕ) → before N x ≡ before M x
  unfolding before
  before-same x = ap (λ q. predecessor (items_of (content N q)) x) (loop_of-same x) ∙ ap (λ c. predecessor (items_of c) x) (content-same (loop_of M x))

  pub stands-same : (x q : ℕ) → StandsIn N x q → StandsIn M x q
  stands-same x q s = ap (holds x) (sym (content-same q)) ∙ s

  pub loop-same : (x : ℕ) → HasLoop M x → HasLoop N x
  loop-same x t = ap (λ q. holds x (content N q)) (loop_of-same x) ∙ ap (holds x) (content-same (loop_of M x)) ∙ t

  pub placed-same : ((x : ℕ) → HasHalf M x → HasHalf N x) → LoopsStandApart M → LoopsStandApart N
  placed-same halves placed = record {
    only = λ x q s. halves x (placed.only x q (stands-same x q s));
    apart = λ q. subst (λ c. IsApart (items_of c)) (sym (content-same q)) (placed.apart q);
    one_loop = λ x q s. loop_of-same x ∙ placed.one_loop x q (stands-same x q s);
    no_zero = ap (λ t. table.get t 0) same ∙ placed.no_zero;
  }

module _ (M : Model) (placed : LoopsStandApart M) where
  zero_empty : (h l : ℕ) → l ≡ 0 → StandsIn M h l → ⊥
  zero_empty h l e s = omega (arith, holds_in h (content M l) s, ap (λ q. count h (items_of (content M q))) e, ap (λ c. count h (items_of c)) (content_none M 0 placed.no_zero))

  pub never_zero : (h : ℕ) → HasLoop M h → loop_of M h ≢ 0
  never_zero h s e = zero_empty h (loop_of M h) e s

  -- a half-edge whose edge isn't there stands nowhere
  pub free_none : (h : ℕ) → table.get M.edges (edge_of h) ≡ None → (q : ℕ) → count h (items_of (content M q)) ≡ 0
  free_none h free q = grind (arith, IsIn_or_not h (items_of (content M q)), in-holds h (content M q), placed.only h q)

  elsewhere : (g q : ℕ) (row : LoopRow) → q ≢ loop_of M g → table.get M.loops q ≡ Some row → holds g row.content ≡ false
  elsewhere g q row ne at = false_from_ne_true (holds g row.content) (λ e. ne (sym (placed.one_loop g q (ap (holds g) (content_row M q row at) ∙ e))))

  -- a rewriting of the loop of g puts one row
  pub in_its_loop : (g : ℕ) (new : List ℕ → LoopContent) → HasLoop M g →
      table.map_rows (where_held g new) M.loops ≡ table.put M.loops (loop_of M g) (record { face = face_of M (loop_of M g); content = new (cycle_of M g) })
  in_its_loop g new s =
      let row : LoopRow = record { face = face_of M (loop_of M g); content = content M (loop_of M g) } in
      map_one (where_held g new) M.loops (loop_of M g) row (held_row M g (loop_of M g) s)
      (λ q y ne at. ap (λ b. cond b (record y { content = new (items_of y.content) }) y) (elsewhere g q y ne at))
      ∙ ap (table.put M.loops (loop_of M g)) (ap (λ b. cond b (record row { content = new (items_of row.content) }) row) s)

  before_in : (g : ℕ) → HasLoop M g → IsIn (before M g) (cycle_of M g)
  unfolding before
  before_in g s = IsIn_predecessor g (cycle_of M g) (holds_in g (content M (loop_of M g)) s)

  pub before_stands : (g : ℕ) → HasLoop M g → StandsIn M (before M g) (loop_of M g)
  before_stands g s = in-holds (before M g) (content M (loop_of M g)) (before_in g s)

  -- a half-edge of a loop stands there, and so does the one before it
  pub standing_of : (g : ℕ) → HasLoop M g → IsStanding M g
  standing_of g s = record {
    there = placed.only g (loop_of M g) s;
    stands = s;
    looped = never_zero g s;
    apart = placed.apart (loop_of M g);
    before_there = placed.only (before M g) (loop_of M g) (before_stands g s);
    before_near = placed.one_loop (before M g) (loop_of M g) (before_stands g s);
  }

-- ---- a half-edge put into a loop

-- h, which stood nowhere, comes to loop l
module _ (M : Model) (placed : LoopsStandApart M) (l h : ℕ) (ring : List ℕ) (real : l ≢ 0) (there : HasHalf M h) (nowhere : (q : ℕ) → count h (items_of (content M q)) ≡ 0)
    (counts : (x : ℕ) → count x ring ≡ tick x h + count x (items_of (content M l))) where
  abbrev N : Model
  N = with_loop M l (cycle ring)

  abbrev row : LoopRow
  row = record { face = face_of M l; content = cycle ring }

  abbrev hs : ℕ → List ℕ
  hs q = items_of (content M q)

  count_in : (x q : ℕ) → ((q ≡ l) × (count x (items_of (content N q)) ≡ tick x h + count x (hs q))) ⊎ (count x (items_of (content N q)) ≡ count x (hs q))
  count_in x q = elim (eqb_tells q l) [
    | inl e ↦ inl (e.1, ap (λ k. count x (items_of (content N k))) e.1 ∙ ap (λ c. count x (items_of c)) (content_written M l (cycle ring)) ∙ counts x ∙ sym (ap (λ k. tick x h + count x (hs k)) e.1))
    | inr e ↦ inr (ap (λ c. count x (items_of c)) (same_content M N q (get-put_other M.loops l row q e.1)))
  ]

  pub put_keeps : (x q : ℕ) → StandsIn M x q → StandsIn N x q
  put_keeps x q t = in-holds x (content N q) (elim (count_in x q) [ inl a ↦ omega (arith, holds_in x (content M q) t, a.1) | inr a ↦ omega (arith, holds_in x (content M q) t, a) ])

  pub stands_there : StandsIn N h l
  stands_there = in-holds h (content N l) (omega (arith, ap (λ c. count h (items_of c)) (content_written M l (cycle ring)), counts h, tick_same h))

  there_only : (q : ℕ) → StandsIn N h q → q ≡ l
  there_only q t = elim (count_in h q) [ inl a ↦ a.0 | inr a ↦ absurd (omega (arith, holds_in h (content N q) t, a, nowhere q)) ]

  stood : (x q : ℕ) → x ≢ h → StandsIn N x q → StandsIn M x q
  stood x q ne t = in-holds x (content M q) (elim (count_in x q) [ inl a ↦ omega (arith, holds_in x (content N q) t, a.1, tick_other x h ne) | inr a ↦ omega (arith, holds_in x (content N q) t, a) ])

  once : (q : ℕ) → IsApart (items_of (content N q))
  once q x = grind (arith, count_in x q, eqb_tells x h, tick_le x h, tick_other x h, nowhere q, placed.apart q x)

  pub placed_with : LoopsStandApart N
  placed_with = record {
    only = λ x q t. elim (eqb_tells x h) [ inl e ↦ subst (HasHalf M) (sym e.1) there | inr e ↦ placed.only x q (stood x q e.1 t) ];
    apart = once;
    one_loop = λ x q t. loop_at N x q t (λ p u. elim (eqb_tells x h) [
      | inl e ↦ there_only p (subst (λ y. StandsIn N y p) e.1 u) ∙ sym (there_only q (subst (λ y. StandsIn N y q) e.1 t))
      | inr e ↦ sym (placed.one_loop x p (stood x p e.1 u)) ∙ placed.one_loop x q (stood x q e.1 t)
    ]);
    no_zero = get-put_other M.loops l row 0 (λ e. real (sym e)) ∙ placed.no_zero;
  }

  -- what stood in a loop stands there still
  pub stays_with : (x q : ℕ) → StandsIn M x q → loop_of N x ≡ q
  stays_with x q t = placed_with.one_loop x q (put_keeps x q t)

-- h is put before g
module _ (s : Store) (placed : LoopsStandApart s.model) (g h : ℕ) (stands : HasLoop s.model g) (loose : IsLoose s h) where
  abbrev r : ℕ
  r = loop_of s.model g

  abbrev xs : List ℕ
  xs = cycle_of s.model g

  pub loops_put : (put_before s g h).model.loops ≡ table.map_rows (with_before g h) s.model.loops
  unfolding put_before
  loops_put =
      ap (λ ring. table.put s.model.loops r (record { face = face_of s.model r; content = cycle ring }))
      (sym (put_in xs (placed.apart r) g h (holds_in g (content s.model r) stands) (loose.nowhere r)))
      ∙ sym (in_its_loop s.model placed g (λ ys. cycle (canonical (insert_before g h ys))) stands)

  pub placed-put : LoopsStandApart (put_before s g h).model
  unfolding put_before
  placed-put = placed_with s.model placed r h (put_ring h g xs) (never_zero s.model placed g stands) loose.there loose.nowhere (λ x. count_put x h g xs)

  pub stays-put : (x q : ℕ) → StandsIn s.model x q → loop_of (put_before s g h).model x ≡ q
  unfolding put_before
  stays-put = stays_with s.model placed r h (put_ring h g xs) (never_zero s.model placed g stands) loose.there loose.nowhere (λ x. count_put x h g xs)

  pub loop-put : (x : ℕ) → HasLoop s.model x → HasLoop (put_before s g h).model x
  unfolding put_before
  loop-put x t = subst (StandsIn (put_before s g h).model x) (sym (stays-put x (loop_of s.model x) t))
      (put_keeps s.model placed r h (put_ring h g xs) (never_zero s.model placed g stands) loose.there loose.nowhere (λ y. count_put y h g xs) x (loop_of s.model x) t)

-- ---- a new edge

pub half-put : (M : Model) (e : ℕ) (row : EdgeRow) (x : ℕ) → HasHalf M x → HasHalf (record M { edges = table.put M.edges e row }) x
half-put M e row x t = grind (arith, nat_tests, tables)

module _ (s : Store) (placed : LoopsStandApart s.model) (bare : s.loose ≡ table.empty) (h a b : ℕ) (free : table.get s.model.edges (edge_of h) ≡ None) where
  abbrev E : Store
  E = with_edge s h a b

  half_E : (x : ℕ) → HasHalf s.model x → HasHalf E.model x
  unfolding with_edge
  half_E x t = half-put s.model (edge_of h) (edge_row h a b) x t

  pub loops_E : E.model.loops ≡ s.model.loops
  unfolding with_edge
  loops_E = refl

  pub placed-edge : LoopsStandApart E.model
  placed-edge = placed-same s.model E.model loops_E half_E placed

  -- its half-edges stand nowhere
  pub unused_of : IsUnused s h
  unused_of = record { bare = bare; first = free_none s.model placed h free; second = free_none s.model placed (mate h) (ap (table.get s.model.edges) (edge_of-mate h) ∙ free) }

-- ---- a half-edge taken out

-- a loop reads the same from one ring in two writings
pub same_or_lone : (ys zs : List ℕ) (v : ℕ) → canonical ys ≡ canonical zs → cycle_or_lone ys v ≡ cycle_or_lone zs v
same_or_lone [] [] v e = refl
same_or_lone [] (z ∷ zs) v e = absurd (omega (arith, ap (count z) (sym canonical_nil ∙ e), count-canonical z (z ∷ zs), tick_same z))
same_or_lone (y ∷ ys) [] v e = absurd (omega (arith, ap (count y) (e ∙ canonical_nil), count-canonical y (y ∷ ys), tick_same y))
same_or_lone (y ∷ ys) (z ∷ zs) v e = ap cycle e

module _ (s : Store) (placed : LoopsStandApart s.model) (h : ℕ) (stands : HasLoop s.model h) where
  open s use {model as K}

  abbrev O : Model
  O = (take_out s h).model

  abbrev out : List ℕ → LoopContent
  out xs = cycle_or_lone (without h xs) (tail K h)

  h_in : IsIn h (cycle_of K h)
  h_in = holds_in h (content K (loop_of K h)) stands

  loops_out : O.loops ≡ table.map_rows (where_held h out) K.loops
  unfolding take_out
  loops_out =
      let r : ℕ = loop_of K h in
      ap (λ c. table.put K.loops r (record { face = face_of K r; content = c })) (same_or_lone (rest h (cycle_of K h)) (without h (cycle_of K h)) (tail K h) (sym (taken_out (cycle_of K h) (placed.apart r) h h_in)))
      ∙ sym (in_its_loop K placed h out stands)

  -- what that leaves in each loop
  abbrev left : LoopContent → LoopContent
  left c = cond (holds h c) (out (items_of c)) c

  left_content : (b : Bool) (x : LoopRow) → (cond b (record x { content = out (items_of x.content) }) x).content ≡ cond b (out (items_of x.content)) x.content
  left_content true x = refl
  left_content false x = refl

  left_face : (b : Bool) (x : LoopRow) → (cond b (record x { content = out (items_of x.content) }) x).face ≡ x.face
  left_face true x = refl
  left_face false x = refl

  rewritten : Rewritten K O left
  rewritten = record {
    rewrite = where_held h out;
    is = loops_out;
    contents = λ _ x. left_content (holds h x.content) x;
    faces = λ _ x. left_face (holds h x.content) x;
    none = ap (λ b. cond b (out []) (cycle [])) (holds-none h (cycle []) refl);
  }

  pub content-O : (q : ℕ) → content O q ≡ cond (holds h (content K q)) (out (items_of (content K q))) (content K q)
  content-O = content-new K O left rewritten

  pub face-O : (q : ℕ) → face_of O q ≡ face_of K q
  face-O = face-same K O left rewritten

  pub has-O : (q : ℕ) → table.has O.loops q ≡ table.has K.loops q
  has-O = same.loop-same K O left rewritten

  count_O : (x q : ℕ) → count x (items_of (content O q)) ≡ count x (without h (items_of (content K q)))
  count_O x q =
      let xs : List ℕ = items_of (content K q) in
      grind (arith, content-O q, IsIn_or_not h xs, in-holds h (content K q), holds-none h (content K q), count_or_lone x (without h xs) (tail K h), without_none h xs)

  taken_came : (x q : ℕ) → StandsIn O x q → (x ≢ h) × StandsIn K x q
  taken_came x q t =
      let i : IsIn x (items_of (content O q)) = holds_in x (content O q) t in
      let a : x ≢ h = λ e. omega (arith, i, count_O x q, ap (λ y. count y (without h (items_of (content K q)))) e, count_gone h (items_of (content K q)) (placed.apart q)) in
      (a, in-holds x (content K q) (omega (arith, i, count_O x q, count_out x h (items_of (content K q)) a)))

  taken_keeps : (x q : ℕ) → x ≢ h → StandsIn K x q → StandsIn O x q
  taken_keeps x q a t = in-holds x (content O q) (omega (arith, holds_in x (content K q) t, count_O x q, count_out x h (items_of (content K q)) a))

  pub placed-taken : LoopsStandApart O
  unfolding take_out
  placed-taken = record {
    only = λ x q t. placed.only x q (taken_came x q t).1;
    apart = λ q x. omega (arith, count_O x q, apart_out h (items_of (content K q)) (placed.apart q) x);
    one_loop = λ x q t. loop_at O x q t (λ p u. sym (placed.one_loop x p (taken_came x p u).1) ∙ placed.one_loop x q (taken_came x q t).1);
    no_zero = ap (λ t. table.get t 0) loops_out ∙ table.get-map_rows (where_held h out) K.loops 0 ∙ ap (option_map (where_held h out 0)) placed.no_zero;
  }

  pub loop-taken : (x : ℕ) → x ≢ h → HasLoop K x → HasLoop O x
  loop-taken x a t = let u = taken_keeps x (loop_of K x) a t in subst (StandsIn O x) (sym (placed-taken.one_loop x (loop_of K x) u)) u
