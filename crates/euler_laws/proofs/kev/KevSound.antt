-- A sound model stays sound under kev.
use Rattle.euler_laws.proofs.Prelude.{◌≡◌, ◌≢◌, ℕ, ◌+◌, Bool, true, false, cond, nat_eq, ◌||◌, List, [], ◌++◌, Option, Some, None, unwrap_or, is_some, refl, sym, ap, ◌∙◌, subst, arith, ◌⊎◌, inl, inr, true≢false, option_map, nat_tests, eqb_tells, count, tick, IsIn, IsApart, canonical, rest, IsRing, without, redirect, after_kev, mate, edge_of, is_first, tables, Model, LoopContent, lone, cycle, EdgeRow, items_of, holds, tail, loop_of, content, after, tail_in, no_edge, Sound, Has, HasHalf, StandsIn, IsTail, IsLoneAt, kev, moved_tail, cycle_or_lone, count-append, tick_same, tick_other, IsIn_or_not, count-canonical, IsApart-canonical, count_at, without_none, mate_other, edge_of-mate, mate-mate, edges_apart, mate_edge_apart, row_elsewhere, in-holds, holds_in, holds-none, cycle_there, mate_there, or_true}
use Rattle.euler_operators.specs.Table as table
use Rattle.euler_laws.proofs.shared.Fans.{Fan, fan_of, half_after, loop_after, ring_reaches, two_reaches, none_in_fan}
use Rattle.euler_laws.proofs.shared.Loops.{IsLoop, count_out, count_gone, apart_out, ring_out, light, loop_sound, Walks, loop_at}
use Rattle.euler_laws.proofs.shared.Arcs.{fan_kev, fan_kev_other}
use Rattle.euler_laws.proofs.shared.Same.{mapped_some, Rewritten, content-new, face-same, loop-same, SameFaces, solid_at, solid_at-same}
use Rattle.euler_laws.proofs.shared.Parts.{RowSet, row_here, has_on, has_back, VerticesHold, RangesHold, sound_of, fit-map, fit-remove, points-remove, stay_of_same, faces_hold}
use Rattle.euler_laws.proofs.shared.EdgeLess.{EdgeGoes, half_stays, half_was, other_edge as of_other_edge, not_mate, next_other, alone_there}
use Rattle.euler_laws.proofs.shared.Rows.{count_or_lone, loop_or_lone, was_empty, no_items}

pub moved_in : (v w e : ℕ) (row : EdgeRow) (b : Bool) → tail_in (moved_tail v w e row) b ≡ cond (nat_eq (tail_in row b) v) w (tail_in row b)
moved_in v w e row true = refl
moved_in v w e row false = refl

moved_mapped : (v w e : ℕ) (b : Bool) (o : Option EdgeRow) → is_some o ≡ true →
    tail_in (unwrap_or (option_map (moved_tail v w e) o) no_edge) b ≡ cond (nat_eq (tail_in (unwrap_or o no_edge) b) v) w (tail_in (unwrap_or o no_edge) b)
moved_mapped v w e b None t = absurd (true≢false (sym t))
moved_mapped v w e b (Some row) t = moved_in v w e row b

-- what kev leaves of a content
abbrev pub without_both : ℕ → ℕ → LoopContent → LoopContent
without_both h t c = cond (holds h c || holds (mate h) c) (cycle_or_lone (without (mate h) (without h (items_of c))) t) c

module _ (h t : ℕ) where
  pub back_none : (c : LoopContent) → count h (items_of c) ≡ 0 → count (mate h) (items_of c) ≡ 0 → without_both h t c ≡ c
  back_none c a b = ap (λ s. cond s (cycle_or_lone (without (mate h) (without h (items_of c))) t) c) (ap (λ s. s || holds (mate h) c) (holds-none h c a) ∙ holds-none (mate h) c b)

  pub back_h : (c : LoopContent) → IsIn h (items_of c) → without_both h t c ≡ cycle_or_lone (without (mate h) (without h (items_of c))) t
  back_h c a = ap (λ s. cond (s || holds (mate h) c) (cycle_or_lone (without (mate h) (without h (items_of c))) t) c) (in-holds h c a)

  pub back_m : (c : LoopContent) → IsIn (mate h) (items_of c) → without_both h t c ≡ cycle_or_lone (without (mate h) (without h (items_of c))) t
  back_m c a = ap (λ s. cond (holds h c || s) (cycle_or_lone (without (mate h) (without h (items_of c))) t) c) (in-holds (mate h) c a) ∙ ap (λ s. cond s (cycle_or_lone (without (mate h) (without h (items_of c))) t) c) (or_true (holds h c))

-- what the conditions of kev say
pub record KevGoes (M : Model) (h : ℕ) : Type 0 where
  pub h_there : HasHalf M h
  pub no_parallel : (x : ℕ) → HasHalf M x → edge_of x ≢ edge_of h → tail M x ≡ tail M h → tail M (mate x) ≢ tail M (mate h)
  pub not_bare : after M (mate h) ≡ h → after M h ≡ mate h

module _ (M : Model) (sound : Sound M) (h : ℕ) (goes : KevGoes M h) where
  abbrev pub N : Model
  N = kev M h

  abbrev pub m : ℕ
  m = mate h

  abbrev pub u : ℕ
  u = tail M h

  abbrev pub w : ℕ
  w = tail M m

  abbrev pub F : ℕ → ℕ
  F = after_kev (after M) h m

  pub m_there : HasHalf M m
  m_there = mate_there M h goes.h_there

  pub u_w : u ≢ w
  u_w = sound.ends_differ h goes.h_there

  pub fan : Fan (after M) M u
  fan = fan_of M sound h goes.h_there

  pub fan_killed : Fan (after M) M w
  fan_killed = fan_of M sound m m_there

  abbrev pub ws : List ℕ
  ws = fan.items

  abbrev pub vs : List ℕ
  vs = fan_killed.items

  pub h_in : IsIn h ws
  h_in = fan.all h goes.h_there refl

  pub m_in : IsIn m vs
  m_in = fan_killed.all m m_there refl

  -- ---- loops

  abbrev pub out : LoopContent → List ℕ
  out c = without m (without h (items_of c))

  abbrev pub new : LoopContent → LoopContent
  new c = cond (holds h c || holds m c) (cycle_or_lone (out c) u) c

  -- a loop with neither half stays, and others lose what they have of the two
  pub touched : (c : LoopContent) → ((new c ≡ cycle_or_lone (out c) u) × (IsIn h (items_of c) ⊎ IsIn m (items_of c))) ⊎ ((new c ≡ c) × (count h (items_of c) ≡ 0) × (count m (items_of c) ≡ 0))
  touched c = grind (arith, IsIn_or_not h (items_of c), back_h h u c, IsIn_or_not m (items_of c), back_m h u c, back_none h u c)

  pub out_none : (c : LoopContent) → count h (items_of c) ≡ 0 → count m (items_of c) ≡ 0 → out c ≡ items_of c
  out_none c a b = ap (without m) (without_none h (items_of c) a) ∙ without_none m (items_of c) b

  pub count_new : (x : ℕ) (c : LoopContent) → count x (items_of (new c)) ≡ count x (out c)
  count_new x c = grind (arith, touched c, count_or_lone x (out c) u, out_none c)

  pub count_kept : (x : ℕ) (c : LoopContent) → x ≢ h → x ≢ m → count x (out c) ≡ count x (items_of c)
  count_kept x c a b = count_out x m (without h (items_of c)) b ∙ count_out x h (items_of c) a

  pub h_out : (c : LoopContent) → IsApart (items_of c) → count h (out c) ≡ 0
  h_out c d = count_out h m (without h (items_of c)) (mate_other h) ∙ count_gone h (items_of c) d

  pub m_out : (c : LoopContent) → IsApart (items_of c) → count m (out c) ≡ 0
  m_out c d = count_gone m (without h (items_of c)) (apart_out h (items_of c) d)

  pub rewritten : Rewritten M N new
  unfolding kev
  rewritten = grind (arith, back_none h u (cycle []))

  pub same : SameFaces M N
  unfolding kev
  same = record { faces = refl; solids = refl; face = face-same M N new rewritten; loop = loop-same M N new rewritten }

  pub content-N : (q : ℕ) → content N q ≡ new (content M q)
  content-N q = content-new M N new rewritten q

  pub came : (x q : ℕ) → StandsIn N x q → (x ≢ h) × (x ≢ m) × StandsIn M x q
  came x q s =
      let c : LoopContent = content M q in
      let d : IsApart (items_of c) = (light M sound q).0 in
      grind (arith, content-N q, holds_in x (content N q) s, count_new x c, h_out c d, m_out c d, in-holds x c, count_kept x c)

  pub stay : (x q : ℕ) → x ≢ h → x ≢ m → StandsIn M x q → StandsIn N x q
  stay x q a b s = grind (arith, content-N q, in-holds x (content N q), holds_in x (content M q) s, count_new x (content M q), count_kept x (content M q) a b)

  -- ---- edges

  pub edge_mapped : (e : ℕ) → e ≢ edge_of h → table.get N.edges e ≡ option_map (moved_tail w u e) (table.get M.edges e)
  unfolding kev
  edge_mapped e a = grind (arith, nat_tests, tables)

  pub edge_gone : table.get N.edges (edge_of h) ≡ None
  unfolding kev
  edge_gone = grind (arith, nat_tests, tables)

  pub edge_goes : EdgeGoes M N h
  edge_goes = record { gone = edge_gone; others = λ e a. ap is_some (edge_mapped e a) ∙ mapped_some _ (table.get M.edges e) }

  pub half_old : (x : ℕ) → HasHalf M x → edge_of x ≢ edge_of h → HasHalf N x
  half_old = half_stays edge_goes

  pub half_cases : (x : ℕ) → HasHalf N x → HasHalf M x × (edge_of x ≢ edge_of h)
  half_cases = half_was edge_goes

  pub other_edge : (x : ℕ) → x ≢ h → x ≢ m → edge_of x ≢ edge_of h
  other_edge x a b = of_other_edge x h a b

  pub not_m : (x : ℕ) → edge_of x ≢ edge_of h → x ≢ m
  not_m x a = not_mate x h a

  pub tail_old : (x : ℕ) → HasHalf M x → edge_of x ≢ edge_of h → tail N x ≡ cond (nat_eq (tail M x) w) u (tail M x)
  unfolding tail
  tail_old x there a = ap (λ o. tail_in (unwrap_or o no_edge) (is_first x)) (edge_mapped (edge_of x) a) ∙ moved_mapped w u (edge_of x) (is_first x) (table.get M.edges (edge_of x)) there

  pub tail_moved : (x : ℕ) → HasHalf M x → edge_of x ≢ edge_of h → tail M x ≡ w → tail N x ≡ u
  tail_moved x there a e = let b : nat_eq (tail M x) w ≡ true = grind (arith, nat_tests) in tail_old x there a ∙ ap (λ c. cond c u (tail M x)) b

  pub tail_kept : (x : ℕ) → HasHalf M x → edge_of x ≢ edge_of h → tail M x ≢ w → tail N x ≡ tail M x
  tail_kept x there a e = let b : nat_eq (tail M x) w ≡ false = grind (arith, nat_tests) in tail_old x there a ∙ ap (λ c. cond c u (tail M x)) b

  -- ---- walks

  pub placed_old : (x : ℕ) → HasHalf M x → edge_of x ≢ edge_of h → StandsIn N x (loop_of M x) × ((q : ℕ) → StandsIn N x q → q ≡ loop_of M x)
  placed_old x there a = (stay x (loop_of M x) (edges_apart x h a) (not_m x a) (sound.stands x there), λ q s. sym (sound.one_loop x q (came x q s).2))

  pub loop_old : (x : ℕ) → HasHalf M x → edge_of x ≢ edge_of h → loop_of N x ≡ loop_of M x
  loop_old x there a = loop_at N x (loop_of M x) (placed_old x there a).0 (placed_old x there a).1

  pub only : (x q : ℕ) → StandsIn N x q → HasHalf N x
  only x q s = let c = came x q s in half_old x (sound.only_edges x q c.2) (other_edge x c.0 c.1)

  pub placed : (x : ℕ) → HasHalf N x → (q : ℕ) × StandsIn N x q × ((p : ℕ) → StandsIn N x p → p ≡ q)
  placed x there = let o = half_cases x there in (loop_of M x, (placed_old x o.0 o.1).0, (placed_old x o.0 o.1).1)

  pub loop_new : (c : LoopContent) → IsLoop (after M) c → IsLoop F (new c)
  loop_new (lone v) l = subst (IsLoop F) (sym (back_none h u (lone v) refl refl)) tt
  loop_new (cycle hs) l =
      let r : IsRing F (without m (without h hs)) = ring_out (redirect (after M) h (after M h)) m (without h hs) (apart_out h hs l.0.apart) (ring_out (after M) h hs l.0.apart l.1) in
      let one = loop_or_lone F (without m (without h hs)) u (apart_out m (without h hs) (apart_out h hs l.0.apart)) r in
      grind (arith, one, touched (cycle hs), apart_out m (without h hs) (apart_out h hs l.0.apart), apart_out h hs l.0.apart, out_none (cycle hs))

  pub loops : (q : ℕ) → Has N.loops q → IsLoop F (content N q)
  loops q there = subst (IsLoop F) (sym (content-N q)) (loop_new (content M q) (loop_sound M sound q (sym (same.loop q) ∙ there)))

  -- where after(m) is h nothing else starts at the two ends
  pub bare : after M m ≡ h → (x : ℕ) → HasHalf M x → edge_of x ≢ edge_of h → (tail M x ≢ u) × (tail M x ≢ w)
  bare e x there a = grind (arith, alone_there, sound, goes.h_there, there, m_there, mate-mate, goes.not_bare, edge_of-mate)

  pub apart_both : IsApart (ws ++ vs)
  apart_both x = grind (arith, u_w, fan.of_it x, fan_killed.of_it x, count-append x ws vs, fan.apart x, fan_killed.apart x)

  abbrev pub both : List ℕ
  both = rest h ws ++ rest m vs

  pub in_both : (x : ℕ) → count x (canonical both) ≡ count x (rest h ws) + count x (rest m vs)
  in_both x = count-canonical x both ∙ count-append x (rest h ws) (rest m vs)

  abbrev pub fan_u : after M m ≢ h → Fan F N u
  fan_u ne = record {
    items = canonical both;
    apart = IsApart-canonical both (λ x. omega (arith, apart_both x, count-append x ws vs, count-append x (rest h ws) (rest m vs), count_at x h ws h_in, count_at x m vs m_in));
    ring = fan_kev (after M) h ws vs apart_both h_in m_in ne fan.ring fan_killed.ring;
    of_it = λ x i. elim (IsIn_or_not x (rest h ws)) [
      | inl j ↦
          let o = fan.of_it x (omega (arith, count_at x h ws h_in)) in
          let a : x ≢ h = λ e. omega (arith, ap (tick x) (sym e), tick_same x, count_at x h ws h_in, fan.apart x) in
          let b : x ≢ m = λ e. u_w (sym o.1 ∙ ap (tail M) e) in
          (half_old x o.0 (other_edge x a b), tail_kept x o.0 (other_edge x a b) (λ e. u_w (sym o.1 ∙ e)) ∙ o.1)
      | inr j ↦
          let k : IsIn x (rest m vs) = omega (arith, in_both x) in
          let o = fan_killed.of_it x (omega (arith, count_at x m vs m_in)) in
          let a : x ≢ h = λ e. u_w (ap (tail M) (sym e) ∙ o.1) in
          let b : x ≢ m = λ e. omega (arith, ap (tick x) (sym e), tick_same x, count_at x m vs m_in, fan_killed.apart x) in
          (half_old x o.0 (other_edge x a b), tail_moved x o.0 (other_edge x a b) o.1)
    ];
    all = λ x there e. let o = half_cases x there in elim (eqb_tells (tail M x) w) [
      | inl t ↦ omega (arith, in_both x, count_at x m vs m_in, fan_killed.all x o.0 t.1, tick_other x m (not_m x o.1))
      | inr t ↦ omega (arith, in_both x, count_at x h ws h_in, fan.all x o.0 (sym (tail_kept x o.0 o.1 t.1) ∙ e), tick_other x h (edges_apart x h o.1))
    ];
  }

  pub fan_else : (x : ℕ) → HasHalf M x → tail M x ≢ u → tail M x ≢ w → Fan F N (tail M x)
  fan_else x o a b =
      let f = fan_of M sound x o in
      let nh : count h f.items ≡ 0 = none_in_fan M f h (λ e. a (sym e)) in
      let nm : count m f.items ≡ 0 = none_in_fan M f m (λ e. b (sym e)) in
      record {
        items = f.items;
        apart = f.apart;
        ring = fan_kev_other (after M) h f.items nh nm f.ring;
        of_it = grind (arith, f.of_it, other_edge, half_old, tail_kept);
        all = grind (arith, half_cases, eqb_tells, tail_moved, f.all, tail_kept);
      }

  pub fans : (x : ℕ) → HasHalf N x → Fan F N (tail N x)
  fans x there = let o = half_cases x there in elim (eqb_tells (tail M x) w) [
    | inl q ↦ subst (Fan F N) (sym (tail_moved x o.0 o.1 q.1)) (fan_u (λ e. (bare e x o.0 o.1).1 q.1))
    | inr q ↦ elim (eqb_tells (tail M x) u) [
      | inl t ↦ subst (Fan F N) (sym (tail_kept x o.0 o.1 q.1 ∙ t.1)) (fan_u (λ e. (bare e x o.0 o.1).0 t.1))
      | inr t ↦ subst (Fan F N) (sym (tail_kept x o.0 o.1 q.1)) (fan_else x o.0 t.1 q.1)
    ]
  ]

  pub walks : Walks N F
  walks = record { only = only; placed = placed; loops = loops; fans = fans }

  -- ---- vertices

  vertex_taken : RowSet M.vertices N.vertices w None
  unfolding kev
  vertex_taken = record { are = refl }

  pub vertex_gone : table.get N.vertices w ≡ None
  vertex_gone = row_here vertex_taken

  not_w : (t : ℕ) → Has N.vertices t → t ≢ w
  not_w t there = row_elsewhere N.vertices t w there vertex_gone

  pub has_vertex : (t : ℕ) → t ≢ w → Has M.vertices t → Has N.vertices t
  has_vertex t a there = has_on vertex_taken t a there

  pub has_u : Has N.vertices u
  has_u = has_vertex u u_w (sound.tails_there h goes.h_there)

  -- after(h) isn't h, nor after(m) m
  pub h_on : after M h ≢ h
  h_on = next_other M sound h goes.h_there

  pub m_on : after M m ≢ m
  m_on = next_other M sound m m_there

  -- a loop that is emptied was h and its mate
  pub emptied : (q : ℕ) → IsIn h (items_of (content M q)) ⊎ IsIn m (items_of (content M q)) → out (content M q) ≡ [] → (q ≡ loop_of M h) × (after M m ≡ h)
  emptied q i e = elim i [
    | inl a ↦ grind (arith, sound.one_loop h q (in-holds h (content M q) a), next_in h goes.h_there, h_on, loop_after M sound h goes.h_there, next_in m m_there, m_on)
    | inr a ↦
        grind (arith, sound.one_loop m q (in-holds m (content M q) a), next_in m m_there, m_on, loop_after M sound m m_there)
  ] where
    each : (x : ℕ) → IsIn x (items_of (content M q)) → (x ≡ h) ⊎ (x ≡ m)
    each x j = grind (arith, eqb_tells x h, eqb_tells x m, count_kept x (content M q), e)

    next_in : (x : ℕ) → HasHalf M x → loop_of M x ≡ q → (after M x ≡ h) ⊎ (after M x ≡ m)
    next_in x t l = each (after M x) (subst (λ y. IsIn (after M x) (items_of (content M y))) (loop_after M sound x t ∙ l) (cycle_there M sound (after M x) (half_after M sound x t)))

  pub lone_back : (q t : ℕ) → content N q ≡ lone t → (content M q ≡ lone t) ⊎ ((t ≡ u) × (q ≡ loop_of M h) × (after M m ≡ h))
  lone_back q t e = grind (arith, touched (content M q), was_empty (out (content M q)) u t, content-N q, emptied q)

  -- where after(m) is h the loop becomes lone
  pub lone_new : after M m ≡ h → content N (loop_of M h) ≡ lone u
  lone_new e =
      let c : LoopContent = content M (loop_of M h) in
      let i : IsIn h (items_of c) = cycle_there M sound h goes.h_there in
      let l = light M sound (loop_of M h) in
      let z : (x : ℕ) → count x (out c) ≡ 0 = λ x. elim (IsIn_or_not x (out c)) [
        | inl j ↦
            let one = two_reaches (after M) h m x (goes.not_bare e) e in
            grind (arith, one, h_out c l.0, m_out c l.0, ring_reaches (after M) (items_of c) h x l.1 i, count_kept x c)
        | inr j ↦ j
      ] in
      content-N (loop_of M h) ∙ back_h h u c i ∙ ap (λ xs. cycle_or_lone xs u) (no_items (out c) z)

  pub tails_there-kev : (x : ℕ) → HasHalf N x → Has N.vertices (tail N x)
  tails_there-kev x there =
      grind (arith, half_cases x there, eqb_tells (tail M x) w, tail_moved x, has_u, tail_kept x, has_vertex, sound.tails_there x)

  pub ends_differ-kev : (x : ℕ) → HasHalf N x → tail N x ≢ tail N (mate x)
  ends_differ-kev x there e =
      let one = eqb_tells (tail M (mate x)) w in let two = goes.no_parallel (mate x) in let three = eqb_tells (tail M x) w in
      let four = mate_edge_apart x h in let five = sound.ends_differ x in let six = tail_moved (mate x) in let seven = half_cases x there in
      let eight = tail_kept (mate x) in
      grind (arith, seven, mate_there M x, four, three, one, five, two, tail_moved x, eight, mate-mate x, goes.no_parallel x, tail_kept x, six)

  -- another half-edge at u, or the lone loop
  pub at_u : ((q : ℕ) × IsLoneAt N q u) ⊎ IsTail N u
  at_u =
      let one = half_after M sound m m_there in let two = sound.ends_meet m m_there in let three = eqb_tells (after M m) h in
      grind (arith, three, lone_new, one, two, mate-mate h, other_edge (after M m), u_w, half_old (after M m), tail_kept (after M m))

  pub lone_or_tail-kev : (t : ℕ) → Has N.vertices t → ((q : ℕ) × IsLoneAt N q t) ⊎ IsTail N t
  lone_or_tail-kev t there = elim (eqb_tells t u) [
    | inl e ↦ subst (λ y. ((q : ℕ) × IsLoneAt N q y) ⊎ IsTail N y) (sym e.1) at_u
    | inr e ↦ elim (sound.lone_or_tail t (has_back vertex_taken t (not_w t there) there)) [
      | inl a ↦ inl (a.0, content-N a.0 ∙ ap new a.1 ∙ back_none h u (lone t) refl refl)
      | inr x ↦
          let a : edge_of x.half ≢ edge_of h = other_edge x.half (λ q. e.1 (sym x.starts ∙ ap (tail M) q)) (λ q. not_w t there (sym x.starts ∙ ap (tail M) q)) in
          inr (record { half = x.half; there = half_old x.half x.there a; starts = tail_kept x.half x.there a (λ q. not_w t there (sym x.starts ∙ q)) ∙ x.starts })
    ]
  ]

  pub lone_is_no_tail-kev : (q x : ℕ) → HasHalf N x → content N q ≢ lone (tail N x)
  lone_is_no_tail-kev q x there is =
      let o = half_cases x there in let one = sound.lone_is_no_tail q h goes.h_there in let two = sound.lone_is_no_tail q x o.0 in
      grind (arith, o, lone_back q (tail N x) is, one, goes.h_there, tail_moved x o.0 o.1, two, tail_kept x o.0 o.1, bare)

  pub one_lone-kev : (a b t : ℕ) → IsLoneAt N a t → IsLoneAt N b t → a ≡ b
  one_lone-kev a b t x y =
      let one = sound.lone_is_no_tail a h goes.h_there in
      grind (arith, lone_back a t x, lone_back b t y, sound.one_lone a b t, one, goes.h_there, sound.lone_is_no_tail b h goes.h_there)

  pub lone_at_vertex-kev : (q t : ℕ) → IsLoneAt N q t → Has N.vertices t
  lone_at_vertex-kev q t x = grind (arith, lone_back q t x, has_vertex t, sound.lone_is_no_tail q m m_there, m_there, sound.lone_at_vertex q t, has_u)

  pub one_solid-kev : (x : ℕ) → HasHalf N x → solid_at N (loop_of N x) ≡ solid_at N (loop_of N (mate x))
  one_solid-kev x there =
      let o = half_cases x there in
      let old : (y : ℕ) → HasHalf M y → edge_of y ≢ edge_of h → solid_at N (loop_of N y) ≡ solid_at M (loop_of M y) = λ y t a. ap (solid_at N) (loop_old y t a) ∙ solid_at-same M N same (loop_of M y) in
      old x o.0 o.1 ∙ sound.one_solid x o.0 ∙ sym (old (mate x) (mate_there M x o.0) (mate_edge_apart x h o.1))

  vertices : VerticesHold N
  vertices = record {
    tails_there = tails_there-kev;
    ends_differ = ends_differ-kev;
    lone_or_tail = lone_or_tail-kev;
    lone_is_no_tail = lone_is_no_tail-kev;
    one_lone = one_lone-kev;
    lone_at_vertex = lone_at_vertex-kev;
  }

  ranges : RangesHold N
  unfolding kev
  ranges = grind (arith, sound, fit-map, fit-remove, points-remove)

  -- a sound model stays sound under kev
  pub sound-kev : Sound N
  sound-kev = sound_of N F walks vertices (faces_hold sound (stay_of_same M N sound same) one_solid-kev) ranges
