-- A model without one edge: its half-edges, the fans of its vertices, and what stands at them.
use Rattle.euler_laws.proofs.Prelude.{◌≡◌, ◌≢◌, ℕ, ◌+◌, List, None, is_some, refl, sym, ap, ◌∙◌, subst, arith, ◌⊎◌, inl, inr, eqb_tells, count, tick, IsIn, IsRing, take_ring, after_kef, mate, edge_of, Model, lone, tail, content, after, round, Sound, Has, HasHalf, IsTail, IsLoneAt, IsRing-redirect_other, IsRing-splice_other, tick_same, tick_other, count-canonical, count_at, edge_of-mate, mate-mate, same_edge, edges_apart, mate_edge_apart, mate_there, get-remove_here, get-remove_other, row_elsewhere}
use Rattle.euler_operators.specs.Table as table
use Rattle.euler_laws.proofs.shared.Fans.{Fan, fan_of, half_after, fixed_reaches, none_in_fan}
use Rattle.euler_laws.proofs.shared.Arcs.{fan_kef_first, fan_kef_second, fan_kef_other}
use Rattle.euler_laws.proofs.shared.Parts.{VerticesHold}
use Rattle.euler_laws.proofs.shared.Same.{same_tail}

-- another half-edge than h and its mate is of another edge, and back
pub other_edge : (x h : ℕ) → x ≢ h → x ≢ mate h → edge_of x ≢ edge_of h
other_edge x h a b e = elim (same_edge x h e) [ inl q ↦ a q | inr q ↦ b q ]

-- a fact of h and of its mate holds for each half of the edge
pub of_edge : (P : ℕ → Type 0) (h x : ℕ) → P h → P (mate h) → edge_of x ≡ edge_of h → P x
of_edge P h x first second e = elim (same_edge x h e) [ inl a ↦ subst P (sym a) first | inr a ↦ subst P (sym a) second ]

pub not_mate : (x h : ℕ) → edge_of x ≢ edge_of h → x ≢ mate h
not_mate x h a e = a (ap edge_of e ∙ edge_of-mate h)

pub ticks_apart : (x h : ℕ) → edge_of x ≢ edge_of h → tick x h + tick x (mate h) ≡ 0
ticks_apart x h a = omega (arith, tick_other x h (edges_apart x h a), tick_other x (mate h) (not_mate x h a))

-- ---- what a sound model says of one edge

module _ (M : Model) (sound : Sound M) (h : ℕ) (there : HasHalf M h) where
  -- what follows a half-edge starts elsewhere
  pub next_other : after M h ≢ h
  next_other e = sound.ends_differ h there (ap (tail M) (sym e) ∙ sound.ends_meet h there)

  -- where it is the next round its vertex, nothing else starts there
  pub alone_there : after M (mate h) ≡ h → (x : ℕ) → HasHalf M x → edge_of x ≢ edge_of h → tail M x ≢ tail M h
  alone_there e x o a t = edges_apart x h a (fixed_reaches (round M) h x e (sound.one_fan h x there o (sym t)))

-- ---- the edge of h goes; other edges are there as before

pub record EdgeGoes (M N : Model) (h : ℕ) : Type 0 where
  pub gone : table.get N.edges (edge_of h) ≡ None
  pub others : (e : ℕ) → e ≢ edge_of h → table.has N.edges e ≡ table.has M.edges e

module _ {M N : Model} {h : ℕ} (away : EdgeGoes M N h) where
  pub half_stays : (x : ℕ) → HasHalf M x → edge_of x ≢ edge_of h → HasHalf N x
  half_stays x there a = away.others (edge_of x) a ∙ there

  pub half_was : (x : ℕ) → HasHalf N x → HasHalf M x × (edge_of x ≢ edge_of h)
  half_was x there = let a = row_elsewhere N.edges (edge_of x) (edge_of h) there away.gone in (sym (away.others (edge_of x) a) ∙ there, a)

-- the edge of h is taken away
pub record OneLess (M N : Model) (h : ℕ) : Type 0 where
  pub edges : N.edges ≡ table.remove M.edges (edge_of h)
  pub there : HasHalf M h

module _ {M N : Model} {h : ℕ} (less : OneLess M N h) where
  pub edge_gone : table.get N.edges (edge_of h) ≡ None
  edge_gone = ap (λ t. table.get t (edge_of h)) less.edges ∙ get-remove_here M.edges (edge_of h)

  pub edge_other : (e : ℕ) → e ≢ edge_of h → table.get N.edges e ≡ table.get M.edges e
  edge_other e a = ap (λ t. table.get t e) less.edges ∙ get-remove_other M.edges (edge_of h) e a

  goes : EdgeGoes M N h
  goes = record { gone = edge_gone; others = λ e a. ap is_some (edge_other e a) }

  pub half_old : (x : ℕ) → HasHalf M x → edge_of x ≢ edge_of h → HasHalf N x
  half_old = half_stays goes

  pub half_cases : (x : ℕ) → HasHalf N x → HasHalf M x × (edge_of x ≢ edge_of h)
  half_cases = half_was goes

  pub tail_old : (x : ℕ) → edge_of x ≢ edge_of h → tail N x ≡ tail M x
  tail_old x a = same_tail M N x (edge_other (edge_of x) a)

  -- a fan without one of its half-edges
  pub fan_less : (next F : ℕ → ℕ) (t x : ℕ) (g : Fan next M t) → IsIn x g.items → edge_of x ≡ edge_of h → ((y : ℕ) → IsIn y g.items → y ≢ x → edge_of y ≢ edge_of h) → IsRing (λ y. F (mate y)) (take_ring x g.items) → Fan F N t
  fan_less next F t x g i e others ring =
      grind (arith, count-canonical, count_at, g.apart, ring, others, tick_same, g.of_it, half_old, tail_old, half_cases, tick_other, g.all)

  -- a fan in which the edge has no half
  pub fan_stays : (next F : ℕ → ℕ) (t : ℕ) (g : Fan next M t) → ((y : ℕ) → IsIn y g.items → edge_of y ≢ edge_of h) → IsRing (λ y. F (mate y)) g.items → Fan F N t
  fan_stays next F t g others ring = grind (arith, g.apart, ring, g.of_it, half_old, others, tail_old, half_cases, g.all)

-- what follows what in a ring without the edge, after kef or kemr
pub ring_kef-other : (next : ℕ → ℕ) (h m : ℕ) (hs : List ℕ) → count h hs ≡ 0 → count m hs ≡ 0 → IsRing next hs → IsRing (after_kef next h m) hs
ring_kef-other next h m hs a b t = IsRing-redirect_other _ m _ hs b (IsRing-redirect_other _ h _ hs a (IsRing-splice_other next h m hs a b t))

-- a lone loop is an old one, or new at an end at which nothing else started: loop q for h's end, loop k for its mate's
pub record OldVertices (M N : Model) (h q k : ℕ) : Type 0 where
  pub vertices : N.vertices ≡ M.vertices
  pub lone_back : (p v : ℕ) → IsLoneAt N p v →
      IsLoneAt M p v ⊎ (((p ≡ q) × (v ≡ tail M h) × (after M (mate h) ≡ h)) ⊎ ((p ≡ k) × (v ≡ tail M (mate h)) × (after M h ≡ mate h)))
  pub lone_on : (p v : ℕ) → IsLoneAt M p v → IsLoneAt N p v
  pub first_lone : after M (mate h) ≡ h → IsLoneAt N q (tail M h)
  pub second_lone : after M h ≡ mate h → IsLoneAt N k (tail M (mate h))

module _ {M N : Model} {h : ℕ} (sound : Sound M) (less : OneLess M N h) where
  abbrev m : ℕ
  m = mate h

  abbrev u : ℕ
  u = tail M h

  abbrev w : ℕ
  w = tail M m

  abbrev F : ℕ → ℕ
  F = after_kef (after M) h m

  m_there : HasHalf M m
  m_there = mate_there M h less.there

  u_w : u ≢ w
  u_w = sound.ends_differ h less.there

  -- ---- fans

  abbrev fan_h : Fan (after M) M u
  fan_h = fan_of M sound h less.there

  abbrev fan_m : Fan (after M) M w
  fan_m = fan_of M sound m m_there

  fan_u : after M m ≢ h → Fan F N u
  fan_u ne = let i : IsIn h fan_h.items = fan_h.all h less.there refl in
      fan_less less (after M) F u h fan_h i refl (λ y j n. other_edge y h n (λ p. u_w (sym (fan_h.of_it y j).1 ∙ ap (tail M) p)))
      (fan_kef_first (after M) h fan_h.items fan_h.apart fan_h.ring i (none_in_fan M fan_h m (λ e. u_w (sym e))) ne)

  fan_w : after M h ≢ m → Fan F N w
  fan_w ne = let i : IsIn m fan_m.items = fan_m.all m m_there refl in
      fan_less less (after M) F w m fan_m i (edge_of-mate h) (λ y j n. other_edge y h (λ p. u_w (ap (tail M) (sym p) ∙ (fan_m.of_it y j).1)) n)
      (fan_kef_second (after M) h fan_m.items fan_m.apart fan_m.ring i (none_in_fan M fan_m h u_w) (λ e. ne (ap (after M) (sym (mate-mate h)) ∙ e)))

  fan_else : (x : ℕ) → HasHalf M x → tail M x ≢ u → tail M x ≢ w → Fan F N (tail M x)
  fan_else x o a b = let g = fan_of M sound x o in
      fan_stays less (after M) F (tail M x) g
      (λ y i. other_edge y h (λ e. a (sym (g.of_it y i).1 ∙ ap (tail M) e)) (λ e. b (sym (g.of_it y i).1 ∙ ap (tail M) e)))
      (fan_kef_other (after M) h g.items g.apart g.ring (none_in_fan M g h (λ e. a (sym e))) (none_in_fan M g m (λ e. b (sym e))))

  bare_w : after M h ≡ m → (x : ℕ) → HasHalf M x → edge_of x ≢ edge_of h → tail M x ≢ w
  bare_w e x there a = alone_there M sound m m_there (ap (after M) (mate-mate h) ∙ e) x there (λ s. a (s ∙ edge_of-mate h))

  pub fans-less : (x : ℕ) → HasHalf N x → Fan F N (tail N x)
  fans-less x there = let o = half_cases less x there in subst (Fan F N) (sym (tail_old less x o.1)) (elim (eqb_tells (tail M x) u) [
    | inl e ↦ subst (Fan F N) (sym e.1) (fan_u (λ b. alone_there M sound h less.there b x o.0 o.1 e.1))
    | inr e ↦ elim (eqb_tells (tail M x) w) [ inl p ↦ subst (Fan F N) (sym p.1) (fan_w (λ b. bare_w b x o.0 o.1 p.1)) | inr p ↦ fan_else x o.0 e.1 p.1 ]
  ])

  -- ---- vertices

  module _ {q k : ℕ} (old : OldVertices M N h q k) where
    -- something else starts where the edge did, or a loop is lone there
    still : (v y : ℕ) → v ≡ tail M y → HasHalf M y → y ≢ h → y ≢ m → IsTail N v
    still v y e t a b = let o = other_edge y h a b in record { half = y; there = half_old less y t o; starts = tail_old less y o ∙ sym e }

    at_u : ((p : ℕ) × IsLoneAt N p u) ⊎ IsTail N u
    at_u = grind (arith, still u (after M m), sound.ends_meet m m_there, mate-mate h, half_after M sound m m_there, next_other M sound m m_there)

    at_w : ((p : ℕ) × IsLoneAt N p w) ⊎ IsTail N w
    at_w =
        let one = half_after M sound h less.there in let two = next_other M sound h less.there in
        grind (arith, eqb_tells (after M h) m, old.second_lone, still w (after M h), sound.ends_meet h less.there, one, two)

    at_end : (x : ℕ) → HasHalf M x → ((p : ℕ) × IsLoneAt N p (tail M x)) ⊎ IsTail N (tail M x)
    at_end x there = elim (eqb_tells (edge_of x) (edge_of h)) [
      | inl e ↦ of_edge (λ y. ((p : ℕ) × IsLoneAt N p (tail M y)) ⊎ IsTail N (tail M y)) h x at_u at_w e.1
      | inr e ↦ inr (record { half = x; there = half_old less x there e.1; starts = tail_old less x e.1 })
    ]

    -- no lone loop was at an end of the edge
    none_at_u : (p v : ℕ) → IsLoneAt M p v → v ≢ u
    none_at_u p v a e = sound.lone_is_no_tail p h less.there (a ∙ ap lone e)

    none_at_w : (p v : ℕ) → IsLoneAt M p v → v ≢ w
    none_at_w p v a e = sound.lone_is_no_tail p m m_there (a ∙ ap lone e)

    one_lone-less : (a b v : ℕ) → IsLoneAt N a v → IsLoneAt N b v → a ≡ b
    one_lone-less a b v x y =
        grind (arith, old.lone_back a v x, old.lone_back b v y, sound.one_lone a b v, none_at_u a v, none_at_w a v, none_at_u b v, none_at_w b v, u_w)

    lone_is_no_tail-less : (p x : ℕ) → HasHalf N x → content N p ≢ lone (tail N x)
    lone_is_no_tail-less p x there e =
        let o = half_cases less x there in
        let s : tail N x ≡ tail M x = tail_old less x o.1 in
        elim (old.lone_back p (tail N x) e) [
          | inl a ↦ sound.lone_is_no_tail p x o.0 (a ∙ ap lone s)
          | inr d ↦ elim d [ inl a ↦ alone_there M sound h less.there a.2 x o.0 o.1 (sym s ∙ a.1) | inr a ↦ bare_w a.2 x o.0 o.1 (sym s ∙ a.1) ]
        ]

    vertex_stays : (v : ℕ) → Has M.vertices v → Has N.vertices v
    vertex_stays v there = subst (λ y. Has y v) (sym old.vertices) there

    pub vertices_hold-less : VerticesHold N
    vertices_hold-less = record {
      tails_there = λ x there. let o = half_cases less x there in subst (Has N.vertices) (sym (tail_old less x o.1)) (vertex_stays _ (sound.tails_there x o.0));
      ends_differ = grind (arith, half_cases less, sound.ends_differ, tail_old less, mate_edge_apart);
      lone_or_tail = λ v there. elim (sound.lone_or_tail v (subst (λ y. Has y v) old.vertices there)) [
        | inl a ↦ inl (a.0, old.lone_on a.0 v a.1)
        | inr x ↦ subst (λ y. ((p : ℕ) × IsLoneAt N p y) ⊎ IsTail N y) x.starts (at_end x.half x.there)
      ];
      lone_is_no_tail = lone_is_no_tail-less;
      one_lone = one_lone-less;
      lone_at_vertex = λ p v a. let one = sound.tails_there h less.there in let two = sound.tails_there m m_there in
          grind (arith, old.lone_back p v a, sound.lone_at_vertex p v, one, two, vertex_stays v);
    }
