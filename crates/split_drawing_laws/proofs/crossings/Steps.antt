-- One edge cut: the operator that does it, and what stays.
use Rattle.split_drawing_laws.proofs.Prelude.{◌≡◌, ◌≢◌, ℕ, ◌≤◌, true, List, [], ◌∷◌, Some, None, is_some, unwrap_or, IsTrue, refl, sym, ap, ◌∙◌, arith, inl, inr, true≢false, ◌<◌, flat_map, eqb_tells, Point, IsInRange, count, IsIn, rotate_to, canonical, At, edge_of, is_first, plus, minus, half, Model, LoopContent, items_of, holds, tail, tail_in, loop_of, content, after, point_of, no_point, is_number, Sound, Has, HasHalf, first_false, Table, Op, Mev, count-append, tick_same, tick_other, count-canonical, plus_row, code-half, mate_minus, in-holds, holds_in, plus_tail_row, minus_tail_row, plus_there, minus_there, get-put_here, get-put_other, greatest-map, put_turned, Rewritten, content-new, face-same, loop-same, MevGoes, mev_accepted, effect_keeps_sound, rewritten, rewritten_row, taken_in, greatest-put_last, greatest_is, greatest_used, free_above, at_most_greatest, Kept}
use Rattle.euler_operators.specs.Table as table
use Rattle.split_drawing_laws.proofs.crossings.OneCut.{tick_is, CanCut, cut_rows, next_half, doubled, edge_cut}

-- an item stands in the list where e's halves are doubled as often, or more
doubled_has : (e k h : ℕ) → 1 ≤ count h (doubled e k h)
doubled_has e k h = grind (arith, tick_is, tick_same)

still_in : (e k x : ℕ) (hs : List ℕ) → IsIn x hs → IsIn x (flat_map (doubled e k) hs)
still_in e k x [] i = absurd (omega arith)
still_in e k x (h ∷ hs) i = elim (eqb_tells x h) [
  | inl a ↦ grind (arith, doubled_has, count-append)
  | inr a ↦ let there : 1 ≤ count x (flat_map (doubled e k) hs) = still_in e k x hs (omega (arith, i, tick_other x h a.1)) in
      omega (arith, there, count-append x (doubled e k h) (flat_map (doubled e k) hs))
]

still_held : (e k x : ℕ) (c : LoopContent) → IsIn x (items_of c) → holds x (rewritten (flat_map (doubled e k)) c) ≡ true
still_held e k x c f = grind (arith, in-holds, still_in, count-canonical)

-- edge e of a sound model can be cut by edge k at vertex v, which gets point q
pub record CutGoes (M : Model) (e k v : ℕ) (q : Point) : Type 0 where
  pub can : CanCut M e k
  pub vertex_free : table.get M.vertices v ≡ None
  pub edge_fits : IsTrue (is_number k)
  pub vertex_fits : IsTrue (is_number v)
  pub point_fits : IsInRange q

module _ (M : Model) (e k v : ℕ) (q : Point) (goes : CutGoes M e k v q) where
  abbrev cut_op : Op
  cut_op = Mev (At (half (plus e))) (At (half (after M (minus e)))) (half (plus k)) v q

  next_starts : tail M (after M (minus e)) ≡ tail M (plus e)
  next_starts = goes.can.sound.ends_meet (minus e) (minus_there M e goes.can.there) ∙ ap (tail M) (mate_minus e)

  pub mev_goes : MevGoes M (plus e) (after M (minus e)) (plus k) v q
  unfolding after
  mev_goes = grind (arith, plus_there, next_half M e k v q goes.can, plus_row, next_starts)

  pub cut_accepted : first_false M (Mev (At (half (plus e))) (At (half (after M (minus e)))) (half (plus k)) v q) ≡ None
  cut_accepted = grind (arith, mev_accepted, code-half, mev_goes)

  pub cut_sound : Sound (edge_cut M e k v q)
  cut_sound = effect_keeps_sound M cut_op goes.can.sound cut_accepted

  -- ---- what stays

  pub rewrites : Rewritten M (edge_cut M e k v q) (rewritten (flat_map (doubled e k)))
  unfolding rotate_to canonical
  rewrites = record { rewrite = rewritten_row (flat_map (doubled e k)); is = ap (λ N. N.loops) (cut_rows M e k v q goes.can); contents = λ n row. refl; faces = λ n row. refl; none = refl }

  pub apart_new : (x : ℕ) → Has M.edges x → x ≢ k
  apart_new x there is = true≢false (sym there ∙ ap is_some (ap (table.get M.edges) is ∙ goes.can.edge_free))

  pub edge_other : (x : ℕ) → x ≢ e → x ≢ k → table.get (edge_cut M e k v q).edges x ≡ table.get M.edges x
  edge_other x a b = ap (λ N. table.get N.edges x) (cut_rows M e k v q goes.can) ∙ get-put_other _ e _ x a ∙ get-put_other M.edges k _ x b

  edge_old : table.get (edge_cut M e k v q).edges e ≡ Some (record { plus_tail = v; minus_tail = tail M (minus e) })
  edge_old = ap (λ N. table.get N.edges e) (cut_rows M e k v q goes.can) ∙ get-put_here _ e _

  pub edge_new : table.get (edge_cut M e k v q).edges k ≡ Some (record { plus_tail = tail M (plus e); minus_tail = v })
  edge_new = ap (λ N. table.get N.edges k) (cut_rows M e k v q goes.can) ∙ get-put_other _ e _ k (λ s. apart_new e goes.can.there (sym s)) ∙ get-put_here M.edges k _

  pub edge_stays : (x : ℕ) → Has M.edges x → Has (edge_cut M e k v q).edges x
  edge_stays x there = elim (eqb_tells x e) [
    | inl a ↦ ap (table.has (edge_cut M e k v q).edges) a.1 ∙ ap is_some edge_old
    | inr a ↦ ap is_some (edge_other x a.1 (apart_new x there)) ∙ there
  ]

  pub point_new : point_of (edge_cut M e k v q) v ≡ q
  unfolding point_of
  point_new = ap (λ N. point_of N v) (cut_rows M e k v q goes.can) ∙ ap (λ o. unwrap_or o no_point) (get-put_here M.vertices v q)

  pub cut_keeps : Kept M (edge_cut M e k v q)
  cut_keeps = record {
    solids = ap (λ N. N.solids) (cut_rows M e k v q goes.can);
    faces = ap (λ N. N.faces) (cut_rows M e k v q goes.can);
    loops = loop-same M (edge_cut M e k v q) (rewritten (flat_map (doubled e k))) rewrites;
    face = face-same M (edge_cut M e k v q) (rewritten (flat_map (doubled e k))) rewrites;
    halves = λ h there. edge_stays (edge_of h) there;
    loop = λ h there. cut_sound.one_loop h (loop_of M h)
        (ap (holds h) (content-new M (edge_cut M e k v q) (rewritten (flat_map (doubled e k))) rewrites (loop_of M h))
        ∙ still_held e k h (content M (loop_of M h)) (holds_in h (content M (loop_of M h)) (goes.can.sound.stands h there)));
    points = λ w there. ap (λ N. table.get N.vertices w) (cut_rows M e k v q goes.can) ∙ get-put_other M.vertices v q w (λ is. true≢false (sym there ∙ ap is_some (ap (table.get M.vertices) is ∙ goes.vertex_free)));
  }

  -- ---- where half-edges start then

  pub tail_old : (tail (edge_cut M e k v q) (plus e) ≡ v) × (tail (edge_cut M e k v q) (minus e) ≡ tail M (minus e))
  tail_old = (plus_tail_row (edge_cut M e k v q) e _ edge_old, minus_tail_row (edge_cut M e k v q) e _ edge_old)

  pub tail_new : (tail (edge_cut M e k v q) (plus k) ≡ tail M (plus e)) × (tail (edge_cut M e k v q) (minus k) ≡ v)
  tail_new = (plus_tail_row (edge_cut M e k v q) k _ edge_new, minus_tail_row (edge_cut M e k v q) k _ edge_new)

  pub tail_other : (h : ℕ) → HasHalf M h → edge_of h ≢ e → tail (edge_cut M e k v q) h ≡ tail M h
  unfolding tail
  tail_other h there a = ap (λ o. tail_in (unwrap_or o (record { plus_tail = 0; minus_tail = 0 })) (is_first h)) (edge_other (edge_of h) a (apart_new (edge_of h) there))

-- ---- the greatest numbers in use, as an edge is cut

greatest-put_old : {X : Type 0} (t : Table X) (n : ℕ) (x : X) → Has t n → table.greatest (table.put t n x) ≡ table.greatest t
greatest-put_old t n x there = greatest_is (table.put t n x) (table.greatest t)
    (λ some. elim (eqb_tells (table.greatest t) n) [
      | inl a ↦ ap (table.has (table.put t n x)) a.1 ∙ ap is_some (get-put_here t n x)
      | inr a ↦ ap is_some (get-put_other t n x (table.greatest t) a.1) ∙ greatest_used t some
    ])
    (λ k above. ap is_some (get-put_other t n x k (λ s. past k above s)) ∙ free_above t k above) where
      past : (k : ℕ) → table.greatest t < k → k ≢ n
      past k above s = let l : n ≤ table.greatest t = at_most_greatest t n there in absurd (omega arith)

module _ (M : Model) (e k v : ℕ) (q : Point) (can : CanCut M e k) (k_above : table.greatest M.edges < k) (v_above : table.greatest M.vertices < v) where
  edges_greatest : table.greatest (edge_cut M e k v q).edges ≡ k
  edges_greatest = ap (λ N. table.greatest N.edges) (cut_rows M e k v q can) ∙ grind (arith, at_most_greatest, put_turned, greatest-put_last, greatest-put_old)

  -- the counters then
  pub taken_then : taken_in (edge_cut M e k v q) ≡ record (taken_in M) { edge = k; vertex = v }
  unfolding taken_in
  taken_then = grind (arith, cut_rows, greatest-map, doubled, edges_greatest, greatest-put_last)
