-- What the arena's writers make of a store, where an edge is made and where one half-edge goes into a loop or leaves one.
use Rattle.low_euler.proofs.Prelude.{◌≡◌, ◌≢◌, ℕ, Bool, true, false, cond, not, List, [], ◌∷◌, is_some, refl, sym, ap, ◌∙◌, subst, eq-eqb, IsIn, rest, cut_left, cut_right, joined, take_ring, mate, edge_of, is_first, plus, minus, code, HalfEdge, Model, EdgeRow, LoopContent, LoopRow, lone, cycle, items_of, content, face_of, has_half, loop_of, cycle_of, before, tail, edge_row, cycle_or_lone, plus_row, mate_plus, mate_minus, mate-mate, mate_other, edge_of-mate, is_first-mate, get-put_here, put-put, put_turned, content_row, face_row, holds_in, held_row, in_no_loop, cycle_filled, Store, with_loop, with_lone, loosened, loose_key, loose_ring, join, join_loose, join_loops, cut, cut_loose, clear, IsStanding, IsLoose, with_edge, put_before, take_out}
use Rattle.euler_operators.specs.Table as table
use Rattle.euler_conditions.specs.Store as store
use Rattle.low_euler.proofs.steps_laws.Spots.{spots}
use Rattle.low_euler.proofs.steps_laws.RingSteps.{joined_before, cut_keeps, cut_takes, follows, nothing_follows, alone_list}

-- ---- a new edge

abbrev as_edge : Store → ℕ → ℕ → ℕ → EdgeRow → Store
as_edge s h m n row = record s {
  model = record s.model { edges = table.put s.model.edges n row };
  loose = table.put (table.put s.loose h (h ∷ [])) m (m ∷ []);
}

with_edge_is : (s : Store) (h m n a b : ℕ) (f : Bool) → mate h ≡ m → edge_of h ≡ n → is_first h ≡ f →
    with_edge s h a b ≡ as_edge s h m n (cond f (record { plus_tail = a; minus_tail = b }) (record { plus_tail = b; minus_tail = a }))
unfolding with_edge
with_edge_is s h m n a b f e g i =
    ap (λ q. as_edge s h q (edge_of h) (edge_row h a b)) e
    ∙ ap (λ q. as_edge s h m q (edge_row h a b)) g
    ∙ ap (λ q. as_edge s h m n (cond q (record { plus_tail = a; minus_tail = b }) (record { plus_tail = b; minus_tail = a }))) i

either : (f : Bool) (x y : EdgeRow) → cond (not f) x y ≡ cond f y x
either true x y = refl
either false x y = refl

-- an edge is the same from its other end
pub edge_turned : (s : Store) (h a b : ℕ) → with_edge s (mate h) b a ≡ with_edge s h a b
edge_turned s h a b =
    with_edge_is s (mate h) h (edge_of h) b a (not (is_first h)) (mate-mate h) (edge_of-mate h) (is_first-mate h)
    ∙ ap (as_edge s (mate h) h (edge_of h)) (either (is_first h) (record { plus_tail = b; minus_tail = a }) (record { plus_tail = a; minus_tail = b }))
    ∙ ap (λ t. record s { model = record s.model { edges = table.put s.model.edges (edge_of h) (edge_row h a b) }; loose = t })
    (put_turned s.loose (mate h) h (mate h ∷ []) (h ∷ []) (λ e. mate_other h (sym e)))
    ∙ sym (with_edge_is s h (mate h) (edge_of h) a b (is_first h) refl refl refl)

pub put_edge_first : (s : Store) (h : HalfEdge) (a b : ℕ) → h.first ≡ true → store.put_edge s h.edge a b ≡ with_edge s (code h) a b
unfolding store.put_edge code
put_edge_first s h a b e = sym (ap (λ q. with_edge s (cond q (plus h.edge) (minus h.edge)) a b) e
    ∙ with_edge_is s (plus h.edge) (minus h.edge) h.edge a b true (mate_plus h.edge) (plus_row h.edge).0 (plus_row h.edge).1)

pub put_edge_second : (s : Store) (h : HalfEdge) (a b : ℕ) → h.first ≡ false → store.put_edge s h.edge b a ≡ with_edge s (code h) a b
unfolding code
put_edge_second s h a b e =
    put_edge_first s (record { edge = h.edge; first = true }) b a refl
    ∙ ap (λ q. with_edge s q b a) (sym (mate_minus h.edge))
    ∙ edge_turned s (minus h.edge) a b
    ∙ ap (λ q. with_edge s (cond q (plus h.edge) (minus h.edge)) a b) (sym e)

-- ---- a loop's content, once it is written, and once it is written again

module _ (M : Model) (r : ℕ) (c : LoopContent) where
  abbrev written : LoopRow
  written = record { face = face_of M r; content = c }

  pub content_written : content (with_loop M r c) r ≡ c
  content_written = content_row (with_loop M r c) r written (get-put_here M.loops r written)

  pub written_again : (d : LoopContent) → with_loop (with_loop M r c) r d ≡ with_loop M r d
  written_again d =
      ap (λ f. record M { loops = table.put (table.put M.loops r written) r (record { face = f; content = d }) }) (face_row (with_loop M r c) r written (get-put_here M.loops r written))
      ∙ ap (λ t. record M { loops = t }) (put-put M.loops r written (record { face = face_of M r; content = d }))

-- ---- half-edges that go in and out

-- x, which is alone in a loose ring, can be joined to the loop of n
abbrev pub JoinsAlone : Store → ℕ → ℕ → Type 0
JoinsAlone s n x = record {
  a_there : has_half s.model n ≡ true;
  b_there : has_half s.model x ≡ true;
  looped : loop_of s.model n ≢ 0;
  loose : loop_of s.model x ≡ 0;
  alone : loose_ring s x ≡ x ∷ [];
}

-- a half-edge that is alone, joined after p, which stands in loop r
module _ (s : Store) (p r h : ℕ) (there : has_half s.model p ≡ true) (near : loop_of s.model p ≡ r) (real : r ≢ 0) (loose : IsLoose s h) where
  abbrev as_join : ℕ → List ℕ → Store
  as_join l ys = record s { model = with_loop s.model l (cycle ys); loose = table.remove s.loose (loose_key s h) }

  pub join_is : join s p h ≡ as_join r (joined p h (items_of (content s.model r)) (h ∷ []))
  unfolding join_loose
  join_is =
      ap (λ b. cond b (join_loose s p h) (join_loops s p h)) (eq-eqb (loop_of s.model h) 0 (in_no_loop s.model h loose.nowhere))
      ∙ ap (λ l. as_join l (joined p h (items_of (content s.model l)) (loose_ring s h))) near
      ∙ ap (λ ring. as_join r (joined p h (items_of (content s.model r)) ring)) loose.alone

  -- what the join asks, and what it leaves
  joins_here : JoinsAlone s p h
  joins_here = record {
    a_there = there;
    b_there = loose.there;
    looped = λ e. real (sym near ∙ e);
    loose = in_no_loop s.model h loose.nowhere;
    alone = loose.alone;
  }

  pub joins_after : (q : Store) (n x : ℕ) → q ≡ s → n ≡ p → x ≡ h → JoinsAlone q n x
  joins_after q n x e en ex = subst (JoinsAlone q n) (sym ex) (subst (λ y. JoinsAlone q y h) (sym en) (subst (λ t. JoinsAlone t p h) (sym e) joins_here))

  pub was_joined : (q t : Store) (n x : ℕ) → q ≡ s → n ≡ p → x ≡ h → t ≡ join q n x → t ≡ join s p h
  was_joined q t n x e en ex d = d ∙ ap (λ z. join z n x) e ∙ ap (λ y. join s y x) en ∙ ap (join s p) ex

module _ (s : Store) (g : ℕ) (stands : IsStanding s.model g) where
  open s use {model as M}
  open spots s g use {r, xs, p}

  g_in : IsIn g xs
  g_in = holds_in g (content M r) stands.stands

  -- a join after the half-edge before g
  module _ (h : ℕ) (loose : IsLoose s h) where
    pub join_puts : join s p h ≡ put_before s g h
    unfolding before put_before
    join_puts = join_is s p r h stands.before_there stands.before_near stands.looped loose
        ∙ ap (as_join s p r h stands.before_there stands.before_near stands.looped loose r) (joined_before xs stands.apart g g_in h (loose.nowhere r))

    pub joins_alone : (q : Store) (n x : ℕ) → q ≡ s → n ≡ p → x ≡ h → JoinsAlone q n x
    joins_alone = joins_after s p r h stands.before_there stands.before_near stands.looped loose

    pub was_put : (q t : Store) (n x : ℕ) → q ≡ s → n ≡ p → x ≡ h → t ≡ join q n x → t ≡ put_before s g h
    was_put q t n x e en ex d = was_joined s p r h stands.before_there stands.before_near stands.looped loose q t n x e en ex d ∙ join_puts

  -- a cut after the half-edge before g
  module _ (ne : p ≢ g) where
    abbrev as_cut : ℕ → List ℕ → List ℕ → Store
    as_cut l ys ring = record s { model = with_loop M l (cycle ys); loose = loosened ring s.loose }

    ring_keeps : cut_left p g xs ≡ take_ring g xs
    unfolding before
    ring_keeps = cut_keeps xs stands.apart g g_in ne

    ring_takes : cut_right p g xs ≡ g ∷ []
    unfolding before
    ring_takes = cut_takes xs stands.apart g g_in ne

    some_follow : rest g xs ≢ []
    unfolding before
    some_follow = follows xs stands.apart g g_in ne

    pub cut_takes_out : cut s p g 0 ≡ take_out s g
    unfolding cut_loose take_out
    cut_takes_out =
        ap (λ l. as_cut l (cut_left p g (items_of (content M l))) (cut_right p g (items_of (content M l)))) stands.before_near
        ∙ ap (λ ring. as_cut r (cut_left p g xs) ring) ring_takes
        ∙ ap (λ ys. as_cut r ys (g ∷ [])) ring_keeps
        ∙ ap (λ c. record s { model = with_loop M r c; loose = table.put s.loose g (g ∷ []) }) (sym (cycle_filled (rest g xs) (tail M g) some_follow))

  -- where g is alone in its loop, the loop cleared and made lone
  module _ (e : p ≡ g) where
    none_follow : rest g xs ≡ []
    unfolding before
    none_follow = nothing_follows xs stands.apart g g_in e

    one_item : xs ≡ g ∷ []
    one_item = alone_list (cycle_of M g) stands.apart g g_in none_follow

    pub row_there : table.has M.loops r ≡ true
    row_there = ap is_some (held_row M g r stands.stands)

    pub still_there : table.has (clear s r).model.loops r ≡ true
    unfolding clear
    still_there = ap is_some (get-put_here M.loops r (record { face = face_of M r; content = cycle [] }))

    pub now_bare : items_of (content (clear s r).model r) ≡ []
    unfolding clear
    now_bare = ap items_of (content_written M r (cycle []))

    pub clear_takes_out : with_lone (clear s r) r (tail M g) ≡ take_out s g
    unfolding clear take_out
    clear_takes_out =
        ap (λ (N : Model). record s { model = N; loose = loosened xs s.loose }) (written_again M r (cycle []) (lone (tail M g)))
        ∙ ap (λ ring. record s { model = with_loop M r (lone (tail M g)); loose = loosened ring s.loose }) one_item
        ∙ ap (λ ys. record s { model = with_loop M r (cycle_or_lone ys (tail M g)); loose = table.put s.loose g (g ∷ []) }) (sym none_follow)
