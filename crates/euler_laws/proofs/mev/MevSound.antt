-- A sound model stays sound under mev at two half-edges.
use Rattle.euler_laws.proofs.Prelude.{◌≡◌, ◌≢◌, ℕ, ◌+◌, ◌≤◌, true, false, cond, nat_lt, List, ◌∷◌, Option, Some, None, unwrap_or, is_some, IsTrue, refl, sym, ap, ◌∙◌, subst, arith, ◌⊎◌, inl, inr, true≢false, option_map, nat_tests, eqb_tells, Point, IsInRange, count, tick, IsIn, IsApart, canonical, upto, onward, IsRing, insert_before, led_over, after_mev, mate, edge_of, is_first, tables, Model, LoopContent, lone, cycle, LoopRow, EdgeRow, items_of, holds, tail, loop_of, content, after, arc, tail_in, no_edge, is_number, Sound, Has, HasHalf, StandsIn, IsLoneAt, mev_at, edge_row, with_before, with_tails, tick_same, tick_other, IsIn_or_not, mate_other, edge_of-mate, edges_apart, row_elsewhere, no_tail, in-holds, holds_in, cycle_there, mate_there}
use Rattle.euler_operators.specs.Table as table
use Rattle.euler_laws.proofs.shared.Fans.{Fan, not_in_fan, fan_of}
use Rattle.euler_laws.proofs.shared.Loops.{IsLoop, put_before, put_none, put_lone, lone_put, count_put_there, count_put_none, count_put_other, put_keeps, put_came, loop_put, loop_sound, none_free, none_else, Walks}
use Rattle.euler_laws.proofs.shared.Arcs.{halves_of_edge, arc_is, fan_mev, fan_mev_other}
use Rattle.euler_laws.proofs.shared.Same.{map_twice, mapped_some, Rewritten, content-new, face-same, loop-same, SameFaces, solid_at, solid_at-same, one_solid_round}
use Rattle.euler_laws.proofs.shared.Rows.{count-halves}
use Rattle.euler_laws.proofs.shared.Parts.{RowSet, row_here, has_on, has_back, VerticesHold, RangesHold, sound_of, fit-put, fit-map, points-put, stay_of_same, faces_hold}
use Rattle.euler_laws.proofs.shared.EdgeMore.{EdgeComes, half_h, half_m, tail-h, tail-m, edge_apart, not_h, not_m, half_old, half_cases, vertices-more}
use Rattle.euler_laws.proofs.shared.EdgeLess.{not_mate, of_edge}
use Rattle.euler_laws.proofs.shared.TwoRows.{OneOf, TwoRows, in_both, stands_both, only, placed, one_solid-rows}

pub before_content : (g h q : ℕ) (row : LoopRow) → (with_before g h q row).content ≡ put_before g h row.content
before_content g h q row = elim (holds g row.content) as (λ b. (cond b (record row { content = cycle (canonical (insert_before g h (items_of row.content))) }) row).content ≡ cond b (cycle (canonical (insert_before g h (items_of row.content)))) row.content) [ true ↦ refl | false ↦ refl ]

pub before_face : (g h q : ℕ) (row : LoopRow) → (with_before g h q row).face ≡ row.face
before_face g h q row = elim (holds g row.content) as (λ b. (cond b (record row { content = cycle (canonical (insert_before g h (items_of row.content))) }) row).face ≡ row.face) [ true ↦ refl | false ↦ refl ]

pub tails_of_row : (hs : List ℕ) (v x : ℕ) (row : EdgeRow) → tail_in (with_tails hs v (edge_of x) row) (is_first x) ≡ cond (nat_lt 0 (count x hs)) v (tail_in row (is_first x))
tails_of_row hs v x row = grind (arith, halves_of_edge)

tails_mapped : (hs : List ℕ) (v x : ℕ) (o : Option EdgeRow) → is_some o ≡ true →
    tail_in (unwrap_or (option_map (with_tails hs v (edge_of x)) o) no_edge) (is_first x) ≡ cond (nat_lt 0 (count x hs)) v (tail_in (unwrap_or o no_edge) (is_first x))
tails_mapped hs v x None t = absurd (true≢false (sym t))
tails_mapped hs v x (Some row) t = tails_of_row hs v x row

-- what the conditions of mev at two half-edges say
pub record MevGoes (M : Model) (g k h v : ℕ) (p : Point) : Type 0 where
  pub g_there : HasHalf M g
  pub k_there : HasHalf M k
  pub edge_free : table.get M.edges (edge_of h) ≡ None
  pub vertex_free : table.get M.vertices v ≡ None
  pub one_tail : tail M k ≡ tail M g
  pub edge_fits : IsTrue (is_number (edge_of h))
  pub vertex_fits : IsTrue (is_number v)
  pub point_fits : IsInRange p

module _ (M : Model) (sound : Sound M) (g k h v : ℕ) (p : Point) (goes : MevGoes M g k h v p) where
  abbrev pub N : Model
  N = mev_at M g k h v p

  abbrev pub m : ℕ
  m = mate h

  abbrev pub u : ℕ
  u = tail M g

  abbrev pub F : ℕ → ℕ
  F = after_mev (after M) h m g k

  pub fan : Fan (after M) M (tail M g)
  fan = fan_of M sound g goes.g_there

  abbrev pub ws : List ℕ
  ws = fan.items

  abbrev pub moved : List ℕ
  moved = upto g k ws

  abbrev pub left : List ℕ
  left = onward g k ws

  pub arc_moved : arc M g k ≡ moved
  arc_moved = arc_is M ws g k fan.apart fan.ring (λ x i. (fan.of_it x i).0) (fan.all g goes.g_there refl) (fan.all k goes.k_there goes.one_tail)

  pub parts : (x : ℕ) → count x moved + count x left ≡ count x ws
  parts x = count-halves x g k ws

  pub m_free : table.get M.edges (edge_of m) ≡ None
  m_free = ap (table.get M.edges) (edge_of-mate h) ∙ goes.edge_free

  -- ---- edges

  edge_there : table.get N.edges (edge_of h) ≡ Some (edge_row h u v)
  unfolding mev_at
  edge_there = grind (arith, nat_tests, tables)

  pub edge_mapped : (e : ℕ) → e ≢ edge_of h → table.get N.edges e ≡ option_map (with_tails (arc M g k) v e) (table.get M.edges e)
  unfolding mev_at
  edge_mapped e a = grind (arith, nat_tests, tables)

  pub never_v : (x : ℕ) → HasHalf M x → tail M x ≢ v
  never_v x there e = no_tail M sound v goes.vertex_free x there e

  pub u_v : u ≢ v
  u_v = never_v g goes.g_there

  pub new_edge : EdgeComes M N h u v
  new_edge = record { row = edge_there; others = λ e a. ap is_some (edge_mapped e a) ∙ mapped_some _ (table.get M.edges e); free = goes.edge_free; ends_apart = u_v }

  pub h_fan : {w : ℕ} (f : Fan (after M) M w) → count h f.items ≡ 0
  h_fan f = not_in_fan (after M) M _ f h (λ t e. not_h new_edge h t refl)

  pub m_fan : {w : ℕ} (f : Fan (after M) M w) → count m f.items ≡ 0
  m_fan f = not_in_fan (after M) M _ f m (λ t e. not_m new_edge m t refl)

  -- ---- loops

  abbrev pub new : LoopContent → LoopContent
  new c = put_before k m (put_before g h c)

  pub rewritten : Rewritten M N new
  unfolding mev_at
  rewritten = grind (arith, map_twice, put_none g h, put_none k, before_content k, before_content g h, before_face k, before_face g h)

  pub same : SameFaces M N
  unfolding mev_at
  same = record { faces = refl; solids = refl; face = face-same M N new rewritten; loop = loop-same M N new rewritten }

  pub content-N : (q : ℕ) → content N q ≡ new (content M q)
  content-N q = content-new M N new rewritten q

  abbrev pub first : ℕ → LoopContent
  first q = put_before g h (content M q)

  abbrev pub hs : ℕ → List ℕ
  hs q = items_of (content M q)

  stands_N : (x q : ℕ) → IsIn x (items_of (put_before k m (first q))) → StandsIn N x q
  stands_N x q i = in-holds x (content N q) (subst (λ c. IsIn x (items_of c)) (sym (content-N q)) i)

  came : (x q : ℕ) → StandsIn N x q → ((x ≡ h) × StandsIn M g q) ⊎ (((x ≡ m) × StandsIn M k q) ⊎ StandsIn M x q)
  came x q s = elim (put_came x k m (first q) (subst (λ c. IsIn x (items_of c)) (content-N q) (holds_in x (content N q) s))) [
    | inl a ↦ elim (put_came k g h (content M q) a.1) [ inl b ↦ absurd (not_h new_edge k goes.k_there b.0) | inr b ↦ inr (inl (a.0, in-holds k (content M q) b)) ]
    | inr a ↦ elim (put_came x g h (content M q) a) [ inl b ↦ inl (b.0, in-holds g (content M q) b.1) | inr b ↦ inr (inr (in-holds x (content M q) b)) ]
  ]

  -- ---- tails

  pub tail_old : (x : ℕ) → HasHalf M x → tail N x ≡ cond (nat_lt 0 (count x moved)) v (tail M x)
  unfolding tail
  tail_old x there = ap (λ o. tail_in (unwrap_or o no_edge) (is_first x)) (edge_mapped (edge_of x) (edge_apart new_edge x there)) ∙ tails_mapped (arc M g k) v x (table.get M.edges (edge_of x)) there
      ∙ ap (λ a. cond (nat_lt 0 (count x a)) v (tail_in (unwrap_or (table.get M.edges (edge_of x)) no_edge) (is_first x))) arc_moved

  pub tail_moved : (x : ℕ) → HasHalf M x → IsIn x moved → tail N x ≡ v
  tail_moved x there i = let b : nat_lt 0 (count x moved) ≡ true = grind (arith, nat_tests) in tail_old x there ∙ ap (λ c. cond c v (tail M x)) b

  pub tail_kept : (x : ℕ) → HasHalf M x → count x moved ≡ 0 → tail N x ≡ tail M x
  tail_kept x there i = let b : nat_lt 0 (count x moved) ≡ false = grind (arith, nat_tests) in tail_old x there ∙ ap (λ c. cond c v (tail M x)) b

  -- what moves starts at u
  pub moved_old : (x : ℕ) → IsIn x moved → HasHalf M x × (tail M x ≡ u)
  moved_old x i = fan.of_it x (omega (arith, parts x))

  -- ---- walks

  abbrev r : ℕ
  r = loop_of M g

  abbrev s : ℕ
  s = loop_of M k

  at_h : (q : ℕ) → StandsIn N h q → r ≡ q
  at_h q t = grind (arith, came h q t, sound.one_loop g q, mate_other h, not_h new_edge h, sound.only_edges h q)

  at_m : (q : ℕ) → StandsIn N m q → s ≡ q
  at_m q t = grind (arith, came m q t, mate_other h, sound.one_loop k q, not_m new_edge m, sound.only_edges m q)

  at_old : (x q : ℕ) → x ≢ h → x ≢ m → StandsIn N x q → loop_of M x ≡ q
  at_old x q a b t = elim (came x q t) [ inl e ↦ absurd (a e.0) | inr d ↦ elim d [ inl e ↦ absurd (b e.0) | inr o ↦ sound.one_loop x q o ] ]

  stands_h : StandsIn N h r
  stands_h = stands_N h r (put_keeps h k m (first r) (omega (arith, count_put_there h g h (content M r) (cycle_there M sound g goes.g_there), tick_same h)))

  stands_m : StandsIn N m s
  stands_m = stands_N m s (omega (arith, count_put_there m k m (first s) (put_keeps k g h (content M s) (cycle_there M sound k goes.k_there)), tick_same m))

  count_old : (x q : ℕ) → edge_of x ≢ edge_of h → count x (items_of (content N q)) ≡ count x (hs q)
  count_old x q a = ap (λ c. count x (items_of c)) (content-N q) ∙ count_put_other x k m (first q) (not_mate x h a) ∙ count_put_other x g h (content M q) (edges_apart x h a)

  rows : TwoRows M N (edge_of h) r s
  rows = record {
    other_content = λ q n. content-N q ∙ ap (put_before k m) (put_none g h (content M q) (none_else M sound g q n.0)) ∙ put_none k m (content M q) (none_else M sound k q n.1);
    other_loop = λ q n. same.loop q;
    other_edge = λ d a. ap is_some (edge_mapped d a) ∙ mapped_some _ (table.get M.edges d);
    others = λ x a. omega (arith, count_old x r a, count_old x s a);
    once = grind (arith, eqb_tells, at_h s, at_m r, at_old);
    stood = λ x e t. absurd (edge_apart new_edge x t e);
    stands = λ x e t. of_edge (λ y. 1 ≤ in_both N r s y) h x (stands_both N r s h r (inl refl) stands_h) (stands_both N r s m s (inr refl) stands_m) e;
    there = λ x e i. of_edge (HasHalf N) h x (half_h new_edge) (half_m new_edge) e;
  }

  pub first_no_m : (q : ℕ) → count m (items_of (first q)) ≡ 0
  first_no_m q =
      let z = none_free M sound m m_free q in
      grind (arith, IsIn_or_not g (hs q), count_put_there m g h (content M q), tick_other m h, mate_other h, count_put_none m g h (content M q))

  pub loops : (q : ℕ) → Has N.loops q → IsLoop F (content N q)
  loops q there = subst (IsLoop F) (sym (content-N q))
      (loop_put (led_over (after M) g h) k m (first q) (first_no_m q)
      (loop_put (after M) g h (content M q) (none_free M sound h goes.edge_free q) (loop_sound M sound q (sym (same.loop q) ∙ there))))

  pub parted : IsRing (λ x. F (mate x)) (m ∷ moved) × IsRing (λ x. F (mate x)) (h ∷ left)
  parted = fan_mev (after M) h g k ws fan.apart (fan.all g goes.g_there refl) (fan.all k goes.k_there goes.one_tail) (h_fan fan) (m_fan fan) fan.ring

  pub apart_with : (x : ℕ) (xs : List ℕ) → ((y : ℕ) → count y xs ≤ count y ws) → count x ws ≡ 0 → IsApart (x ∷ xs)
  apart_with x xs less z y = elim (eqb_tells y x) [
    | inl e ↦ let c : count y xs ≡ 0 = omega (arith, less y, ap (λ q. count q ws) e.1) in omega (arith, ap (tick y) (sym e.1), tick_same y)
    | inr e ↦ omega (arith, tick_other y x e.1, less y, fan.apart y)
  ]

  pub fan_v : Fan F N v
  fan_v = record {
    items = m ∷ moved;
    apart = apart_with m moved (λ y. omega (arith, parts y)) (m_fan fan);
    ring = parted.0;
    of_it = grind (arith, eqb_tells, half_m new_edge, tail-m new_edge, tick_other, moved_old, half_old new_edge, tail_moved);
    all = grind (arith, half_cases new_edge, IsIn_or_not, never_v, tail_kept, u_v, tail-h new_edge, tick_same);
  }

  pub fan_u : Fan F N u
  fan_u = record {
    items = h ∷ left;
    apart = apart_with h left (λ y. omega (arith, parts y)) (h_fan fan);
    ring = parted.1;
    of_it = λ x i. elim (eqb_tells x h) [
      | inl e ↦ (subst (HasHalf N) (sym e.1) (half_h new_edge), ap (tail N) e.1 ∙ tail-h new_edge)
      | inr e ↦ let j : IsIn x left = omega (arith, tick_other x h e.1) in let o = fan.of_it x (omega (arith, parts x)) in (half_old new_edge x o.0, tail_kept x o.0 (omega (arith, parts x, fan.apart x)) ∙ o.1)
    ];
    all = λ x there e. let d = half_cases new_edge x there in let one = tail_kept x in
        grind (arith, d, IsIn_or_not x moved, tail_moved x, u_v, one, fan.all x, parts x, tick_same h, tail-m new_edge);
  }

  pub not_moved : (x : ℕ) → tail M x ≢ u → count x moved ≡ 0
  not_moved x a = elim (IsIn_or_not x moved) [ inl i ↦ absurd (a (moved_old x i).1) | inr z ↦ z ]

  pub fan_else : (x : ℕ) → HasHalf M x → tail M x ≢ u → Fan F N (tail M x)
  fan_else x o a =
      let f = fan_of M sound x o in
      let no_g : count g f.items ≡ 0 = not_in_fan (after M) M _ f g (λ t e. a (sym e)) in
      let no_k : count k f.items ≡ 0 = not_in_fan (after M) M _ f k (λ t e. a (sym e ∙ goes.one_tail)) in
      record {
        items = f.items;
        apart = f.apart;
        ring = fan_mev_other (after M) h g k (λ e. not_h new_edge k goes.k_there (sym e)) f.items f.apart (h_fan f) (m_fan f) f.ring no_g no_k;
        of_it = grind (arith, f.of_it, half_old new_edge, tail_kept, not_moved);
        all = grind (arith, half_cases new_edge, new_edge, IsIn_or_not, never_v x o, tail_moved, f.all, tail_kept, tail-h new_edge, tail-m new_edge);
      }

  pub fans : (x : ℕ) → HasHalf N x → Fan F N (tail N x)
  fans x there = elim (half_cases new_edge x there) [
    | inl o ↦ elim (IsIn_or_not x moved) [
      | inl j ↦ subst (Fan F N) (sym (tail_moved x o j)) fan_v
      | inr z ↦ elim (eqb_tells (tail M x) u) [
        | inl e ↦ subst (Fan F N) (sym (tail_kept x o z ∙ e.1)) fan_u
        | inr e ↦ subst (Fan F N) (sym (tail_kept x o z)) (fan_else x o e.1)
      ]
    ]
    | inr d ↦ elim d [ inl q ↦ subst (Fan F N) (sym (ap (tail N) q ∙ tail-h new_edge)) fan_u | inr q ↦ subst (Fan F N) (sym (ap (tail N) q ∙ tail-m new_edge)) fan_v ]
  ]

  pub walks : Walks N F
  walks = record { only = only sound rows; placed = placed sound rows; loops = loops; fans = fans }

  -- ---- vertices

  vertex_put : RowSet M.vertices N.vertices v (Some p)
  unfolding mev_at
  vertex_put = record { are = refl }

  not_v : (w : ℕ) → Has M.vertices w → w ≢ v
  not_v w there = row_elsewhere M.vertices w v there goes.vertex_free

  has_vertex : (w : ℕ) → Has M.vertices w → Has N.vertices w
  has_vertex w there = has_on vertex_put w (not_v w there) there

  lone_back : (q w : ℕ) → IsLoneAt N q w → IsLoneAt M q w
  lone_back q w e = lone_put g h w (content M q) (lone_put k m w (first q) (sym (content-N q) ∙ e))

  -- a mate of what moves doesn't move
  other_end : (x : ℕ) → IsIn x moved → tail N (mate x) ≢ v
  other_end x j e = grind (arith, moved_old x j, mate_there M x, never_v (mate x), tail_kept (mate x), not_moved (mate x), sound.ends_differ x)

  ends_differ : (x : ℕ) → HasHalf M x → tail N x ≢ tail N (mate x)
  ends_differ x o same =
      let one = IsIn_or_not (mate x) moved in let two = sound.ends_differ x o in let three = IsIn_or_not x moved in let four = tail_moved (mate x) in
      grind (arith, mate_there M x o, three, other_end x, tail_moved x o, one, never_v x o, tail_kept x o, four, two, tail_kept (mate x))

  tails : (x : ℕ) → HasHalf M x → (tail N x ≡ tail M x) ⊎ ((tail N x ≡ v) × (tail M x ≡ u))
  tails x o = elim (IsIn_or_not x moved) [ inl j ↦ inr (tail_moved x o j, (moved_old x j).1) | inr z ↦ inl (tail_kept x o z) ]

  vertices : VerticesHold N
  vertices = vertices-more sound new_edge tails (record {
    first_there = has_vertex u (sound.tails_there g goes.g_there);
    second_there = ap is_some (row_here vertex_put);
    on = has_vertex;
    back = λ w there a. has_back vertex_put w a there;
    lone_back = λ q w e. let b = lone_back q w e in (b, λ a. sound.lone_is_no_tail q g goes.g_there (b ∙ ap lone a), not_v w (sound.lone_at_vertex q w b));
    lone_on = λ q w e a b. content-N q ∙ ap new e ∙ ap (put_before k m) (put_lone g h w) ∙ put_lone k m w;
  }) ends_differ

  one_solid : (x : ℕ) → HasHalf N x → solid_at N (loop_of N x) ≡ solid_at N (loop_of N (mate x))
  one_solid =
      let both : (q : ℕ) → OneOf r s q → solid_at M q ≡ solid_at M r = λ q o. elim o [ inl e ↦ ap (solid_at M) e | inr e ↦ ap (solid_at M) e ∙ one_solid_round M sound g k goes.g_there goes.k_there (sym goes.one_tail) ] in
      one_solid-rows sound rows (solid_at M r) (λ q o there. solid_at-same M N same q ∙ both q o) (λ q o there. both q o) (λ q n there. solid_at-same M N same q)

  ranges : RangesHold N
  unfolding mev_at
  ranges = grind (arith, sound, fit-put, fit-map, points-put, goes)

  -- a sound model stays sound under mev
  pub sound-mev : Sound N
  sound-mev = sound_of N F walks vertices (faces_hold sound (stay_of_same M N sound same) one_solid) ranges
