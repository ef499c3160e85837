-- A model with one edge more: its half-edges, the fans of its vertices, and what stands at them.
use Rattle.euler_laws.proofs.Prelude.{◌≡◌, ◌≢◌, ℕ, List, [], ◌∷◌, Some, None, is_some, sym, ap, ◌∙◌, subst, arith, ◌⊎◌, inl, inr, eqb_tells, count, IsIn, IsRing, put_ring, after_mef, mate, edge_of, Model, tail, after, Sound, Has, HasHalf, IsTail, IsLoneAt, edge_row, IsRing-led_over_other, IsRing-splice_other, tick_same, tick_other, tick_le, count-canonical, count-rotate_to, edge_of-mate, same_edge, mate-mate, tail_row, mate_there, get-put_here, get-put_other, row_elsewhere}
use Rattle.euler_operators.specs.Table as table
use Rattle.euler_laws.proofs.shared.Fans.{Fan, not_in_fan, fan_of}
use Rattle.euler_laws.proofs.shared.Arcs.{fan_mef_first, fan_mef_second, fan_mef_other}
use Rattle.euler_laws.proofs.shared.Rows.{tail_first, tail_second}
use Rattle.euler_laws.proofs.shared.Parts.{VerticesHold}
use Rattle.euler_laws.proofs.shared.Same.{same_tail}

-- the edge of h comes, from u to w; other edges are there as before
pub record EdgeComes (M N : Model) (h u w : ℕ) : Type 0 where
  pub row : table.get N.edges (edge_of h) ≡ Some (edge_row h u w)
  pub others : (e : ℕ) → e ≢ edge_of h → table.has N.edges e ≡ table.has M.edges e
  pub free : table.get M.edges (edge_of h) ≡ None
  pub ends_apart : u ≢ w

module _ {M N : Model} {h u w : ℕ} (new : EdgeComes M N h u w) where
  mate_row : table.get N.edges (edge_of (mate h)) ≡ Some (edge_row h u w)
  mate_row = ap (table.get N.edges) (edge_of-mate h) ∙ new.row

  pub half_h : HasHalf N h
  half_h = ap is_some new.row

  pub half_m : HasHalf N (mate h)
  half_m = ap is_some mate_row

  pub tail-h : tail N h ≡ u
  tail-h = tail_row N h (edge_row h u w) new.row ∙ tail_first h u w

  pub tail-m : tail N (mate h) ≡ w
  tail-m = tail_row N (mate h) (edge_row h u w) mate_row ∙ tail_second h u w

  pub edge_apart : (x : ℕ) → HasHalf M x → edge_of x ≢ edge_of h
  edge_apart x there = row_elsewhere M.edges (edge_of x) (edge_of h) there new.free

  pub not_h : (x : ℕ) → HasHalf M x → x ≢ h
  not_h x there e = edge_apart x there (ap edge_of e)

  pub not_m : (x : ℕ) → HasHalf M x → x ≢ mate h
  not_m x there e = edge_apart x there (ap edge_of e ∙ edge_of-mate h)

  pub half_old : (x : ℕ) → HasHalf M x → HasHalf N x
  half_old x there = new.others (edge_of x) (edge_apart x there) ∙ there

  pub half_cases : (x : ℕ) → HasHalf N x → HasHalf M x ⊎ ((x ≡ h) ⊎ (x ≡ mate h))
  half_cases x there = grind (arith, same_edge)

  -- its halves start at different vertices
  pub new_ends_differ : (x : ℕ) → (x ≡ h) ⊎ (x ≡ mate h) → tail N x ≢ tail N (mate x)
  new_ends_differ x d same = grind (arith, tail-h, tail-m, mate-mate)

-- the edge of h is put, from u to w
pub record OneMore (M N : Model) (h u w : ℕ) : Type 0 where
  pub edges : N.edges ≡ table.put M.edges (edge_of h) (edge_row h u w)
  pub free : table.get M.edges (edge_of h) ≡ None
  pub ends_apart : u ≢ w

module _ {M N : Model} {h u w : ℕ} (more : OneMore M N h u w) where
  pub edge_other : (e : ℕ) → e ≢ edge_of h → table.get N.edges e ≡ table.get M.edges e
  edge_other e a = ap (λ t. table.get t e) more.edges ∙ get-put_other M.edges (edge_of h) (edge_row h u w) e a

  pub comes : EdgeComes M N h u w
  comes = grind (arith, table.get, get-put_here, edge_other, more.free, more.ends_apart)

  pub tail_old : (x : ℕ) → HasHalf M x → tail N x ≡ tail M x
  tail_old x there = same_tail M N x (edge_other (edge_of x) (edge_apart comes x there))

  -- of the half-edges that start at t, x alone is new
  abbrev pub StartsAt : ℕ → ℕ → Type 0
  StartsAt t x = HasHalf N x × (tail N x ≡ t) × ((y : ℕ) → HasHalf N y → tail N y ≡ t → HasHalf M y ⊎ (y ≡ x))

  pub first_starts : StartsAt u h
  first_starts = grind (arith, comes, tail-h comes, half_cases comes, tail-m comes)

  pub second_starts : StartsAt w (mate h)
  second_starts = grind (arith, half_m comes, tail-m comes, half_cases comes, tail-h comes)

  -- the fan of a vertex at which nothing started
  pub fan_alone : (F : ℕ → ℕ) (t x : ℕ) → StartsAt t x → ((y : ℕ) → HasHalf M y → tail M y ≢ t) → F (mate x) ≡ x → Fan F N t
  fan_alone F t x new bare on = record {
    items = x ∷ [];
    apart = λ y. omega (arith, tick_le y x);
    ring = (on, tt);
    of_it = λ y i. let e : y ≡ x = only y i in (subst (HasHalf N) (sym e) new.0, ap (tail N) e ∙ new.1);
    all = grind (arith, bare, tail_old, tick_same);
  } where
    only : (y : ℕ) → IsIn y (x ∷ []) → y ≡ x
    only y i = elim (eqb_tells y x) [ inl e ↦ e.1 | inr e ↦ absurd (omega (arith, i, tick_other y x e.1)) ]

  -- a fan with one half-edge more
  pub fan_more : (next F : ℕ → ℕ) (t x c : ℕ) (g : Fan next M t) → StartsAt t x → count x g.items ≡ 0 → IsRing (λ y. F (mate y)) (put_ring x c g.items) → Fan F N t
  fan_more next F t x c g new out ring = grind (arith, count-canonical, count-rotate_to, eqb_tells, out, g.apart, half_old comes, tail_old, g.all)

  -- a fan at which the edge has no end
  pub fan_stays : (next F : ℕ → ℕ) (t : ℕ) (g : Fan next M t) → u ≢ t → w ≢ t → IsRing (λ y. F (mate y)) g.items → Fan F N t
  fan_stays next F t g a b ring =
      grind (arith, g.apart, ring, g.of_it, half_old comes, comes, tail_old, half_cases comes, g.all, tail-h comes, tail-m comes)

  -- the fans of the two ends, and each other
  pub fans-more : (F : ℕ → ℕ) → Fan F N u → Fan F N w → ((x : ℕ) → HasHalf M x → u ≢ tail M x → w ≢ tail M x → Fan F N (tail M x)) → (x : ℕ) → HasHalf N x → Fan F N (tail N x)
  fans-more F first second other x there =
      grind (arith, half_cases comes x there, Fan F N, tail_old x, eqb_tells (tail M x) u, eqb_tells (tail M x) w, tail-h comes, tail-m comes)

-- ---- the rings and fans where h is put before c at u, and its mate before e at w

pub ring_mef-other : (next : ℕ → ℕ) (h m c e : ℕ) (hs : List ℕ) → count h hs ≡ 0 → count m hs ≡ 0 → count c hs ≡ 0 → count e hs ≡ 0 → IsRing next hs → IsRing (after_mef next h m c e) hs
ring_mef-other next h m c e hs a b i j t = IsRing-splice_other _ h m hs a b (IsRing-led_over_other _ e m hs j b (IsRing-led_over_other next c h hs i a t))

-- c starts at u and e at w, where they are there
pub record PutBefore (M : Model) (h u w c e : ℕ) : Type 0 where
  pub sound : Sound M
  pub first : HasHalf M c → tail M c ≡ u
  pub second : HasHalf M e → tail M e ≡ w
  pub apart : h ≢ e

module _ {M N : Model} {h u w c e : ℕ} (more : OneMore M N h u w) (put : PutBefore M h u w c e) where
  abbrev F : ℕ → ℕ
  F = after_mef (after M) h (mate h) c e

  -- nothing new stands in an old fan, nor what starts elsewhere
  out : (t : ℕ) (g : Fan (after M) M t) → (count h g.items ≡ 0) × (count (mate h) g.items ≡ 0) × (u ≢ t → count c g.items ≡ 0) × (w ≢ t → count e g.items ≡ 0)
  out t g =
      let one = not_in_fan (after M) M t g (mate h) in let two = not_in_fan (after M) M t g h in let three = not_in_fan (after M) M t g c in
      grind (arith, two, not_h (comes more) h, comes more, one, not_m (comes more) (mate h), three, not_in_fan (after M) M t g e)

  pub fan_first : HasHalf M c → Fan F N u
  fan_first there =
      let g : Fan (after M) M u = subst (Fan (after M) M) (put.first there) (fan_of M put.sound c there) in
      let n = out u g in
      fan_more more (after M) F u h c g (first_starts more) n.0
      (fan_mef_first (after M) h c e put.apart g.items g.apart n.0 n.1 g.ring (g.all c there (put.first there)) (n.3 (λ z. more.ends_apart (sym z))))

  pub fan_second : HasHalf M e → Fan F N w
  fan_second there =
      let g : Fan (after M) M w = subst (Fan (after M) M) (put.second there) (fan_of M put.sound e there) in
      let n = out w g in
      fan_more more (after M) F w (mate h) e g (second_starts more) n.1
      (fan_mef_second (after M) h c e put.apart g.items g.apart n.0 n.1 g.ring (g.all e there (put.second there)) (n.2 more.ends_apart))

  pub fan_other : (x : ℕ) → HasHalf M x → u ≢ tail M x → w ≢ tail M x → Fan F N (tail M x)
  fan_other x there a b =
      let g : Fan (after M) M (tail M x) = fan_of M put.sound x there in
      let n = out (tail M x) g in
      fan_stays more (after M) F (tail M x) g a b (fan_mef_other (after M) h c e put.apart g.items g.apart n.0 n.1 g.ring (n.2 a) (n.3 b))

-- ---- what stands at vertices

-- u and w are vertices without a lone loop, other vertices and lone loops are as they were
pub record NewVertices (M N : Model) (u w : ℕ) : Type 0 where
  pub first_there : Has N.vertices u
  pub second_there : Has N.vertices w
  pub on : (v : ℕ) → Has M.vertices v → Has N.vertices v
  pub back : (v : ℕ) → Has N.vertices v → v ≢ w → Has M.vertices v
  pub lone_back : (q v : ℕ) → IsLoneAt N q v → IsLoneAt M q v × (v ≢ u) × (v ≢ w)
  pub lone_on : (q v : ℕ) → IsLoneAt M q v → v ≢ u → v ≢ w → IsLoneAt N q v

-- where an old half-edge starts where it did, or is moved from u to w
module _ {M N : Model} {h u w : ℕ} (sound : Sound M) (new : EdgeComes M N h u w) (tails : (x : ℕ) → HasHalf M x → (tail N x ≡ tail M x) ⊎ ((tail N x ≡ w) × (tail M x ≡ u))) where
  old_tail : (v : ℕ) → IsTail M v → v ≢ u → IsTail N v
  old_tail v t a = grind (arith, t.half, half_old new t.half t.there, t.there, tails t.half t.there, t.starts)

  -- each tail is an old one, u or w
  tail_cases : (x : ℕ) → HasHalf N x → (HasHalf M x × (tail N x ≡ tail M x)) ⊎ ((tail N x ≡ u) ⊎ (tail N x ≡ w))
  tail_cases x there = grind (arith, half_cases new x there, there, tails x, tail-h new, tail-m new)

  pub vertices-more : NewVertices M N u w → ((x : ℕ) → HasHalf M x → tail N x ≢ tail N (mate x)) → VerticesHold N
  vertices-more vs differ = record {
    tails_there = grind (arith, tail_cases, vs.on, sound.tails_there, vs.first_there, vs.second_there);
    ends_differ = λ x there. elim (half_cases new x there) [ inl o ↦ differ x o | inr d ↦ new_ends_differ new x d ];
    lone_or_tail = λ v there. elim (eqb_tells v w) [
      | inl b ↦ inr (record { half = mate h; there = half_m new; starts = tail-m new ∙ sym b.1 })
      | inr b ↦ elim (eqb_tells v u) [
        | inl a ↦ inr (record { half = h; there = half_h new; starts = tail-h new ∙ sym a.1 })
        | inr a ↦ elim (sound.lone_or_tail v (vs.back v there b.1)) [ inl l ↦ inl (l.0, vs.lone_on l.0 v l.1 a.1 b.1) | inr t ↦ inr (old_tail v t a.1) ]
      ]
    ];
    lone_is_no_tail = λ q x there e. let b = vs.lone_back q (tail N x) e in grind (arith, tail_cases x there, there, sound.lone_is_no_tail q x);
    one_lone = λ q k v a b. sound.one_lone q k v (vs.lone_back q v a).0 (vs.lone_back k v b).0;
    lone_at_vertex = λ q v a. vs.on v (sound.lone_at_vertex q v (vs.lone_back q v a).0);
  }

-- where old half-edges start where they did
pub vertices_hold-more : {M N : Model} {h u w : ℕ} → Sound M → OneMore M N h u w → NewVertices M N u w → VerticesHold N
vertices_hold-more {M = M} sound more new = vertices-more sound (comes more) (λ x o. inl (tail_old more x o)) new
    (λ x o same. sound.ends_differ x o (sym (tail_old more x o) ∙ same ∙ tail_old more (mate x) (mate_there M x o)))
