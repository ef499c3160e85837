-- A sound model stays sound under mev at a lone loop.
use Rattle.euler_laws.proofs.Prelude.{◌≡◌, ◌≢◌, ℕ, ◌+◌, true, cond, nat_eq, List, [], ◌∷◌, Some, None, is_some, IsTrue, refl, sym, ap, ◌∙◌, subst, arith, inl, inr, nat_tests, eqb_tells, Point, IsInRange, count, tick, head_or, canonical, IsRing, mate, edge_of, Model, lone, cycle, LoopRow, items_of, tail, loop_of, content, face_of, after, is_number, Sound, Has, HasHalf, IsLoneAt, lone_vertex, mev_lone, edge_row, tick_same, tick_other, tick_le, count-canonical, IsPath-agree, mate_other, edge_of-mate, mate-mate, get-put_here, get-put_other, row_elsewhere, no_tail, content_row, face_row, mate_there, same_content, same_face}
use Rattle.euler_operators.specs.Table as table
use Rattle.euler_laws.proofs.shared.Fans.{Fan, fan_of}
use Rattle.euler_laws.proofs.shared.Loops.{IsLoop, canonical_cycle, canonical_ring, Walks, after-walks, one_vertex}
use Rattle.euler_laws.proofs.shared.Same.{SameFaces, solid_at}
use Rattle.euler_laws.proofs.shared.Parts.{RowSet, row_here, has_on, has_back, VerticesHold, RangesHold, sound_of, fit-put, points-put, FacesStay, stay_of_same, solid_kept, faces_hold}
use Rattle.euler_laws.proofs.shared.EdgeMore.{OneMore, comes, not_h, not_m, half_h, half_m, tail-h, tail_old, half_cases, first_starts, second_starts, fan_alone, fan_stays, fans-more, vertices_hold-more}
use Rattle.euler_laws.proofs.shared.EdgeLess.{ticks_apart}
use Rattle.euler_laws.proofs.shared.TwoRows.{OneOf, TwoRows, Elsewhere, walks-rows, one_solid-rows, two_rows-more}

-- what the conditions of mev at a lone loop say
pub record LoneGoes (M : Model) (l h v u : ℕ) (p : Point) : Type 0 where
  pub is_lone : content M l ≡ lone u
  pub loop_there : Has M.loops l
  pub edge_free : table.get M.edges (edge_of h) ≡ None
  pub vertex_free : table.get M.vertices v ≡ None
  pub edge_fits : IsTrue (is_number (edge_of h))
  pub vertex_fits : IsTrue (is_number v)
  pub point_fits : IsInRange p

module _ {M : Model} (sound : Sound M) {l h v u : ℕ} {p : Point} (goes : LoneGoes M l h v u p) where
  abbrev pub N : Model
  N = mev_lone M l h v p

  abbrev pub m : ℕ
  m = mate h

  abbrev pub ps : List ℕ
  ps = canonical (h ∷ m ∷ [])

  -- what follows what
  abbrev pub F : ℕ → ℕ
  F x = cond (nat_eq x h) m (cond (nat_eq x m) h (after M x))

  F_h : F h ≡ m
  F_h = let e : nat_eq h h ≡ true = grind (arith, nat_tests) in ap (λ b. cond b m (cond (nat_eq h m) h (after M h))) e

  F_m : F m ≡ h
  F_m = grind (arith, mate_other h, nat_tests)

  F_old : (x : ℕ) → x ≢ h → x ≢ m → F x ≡ after M x
  F_old x a b = grind (arith, nat_tests)

  u_there : Has M.vertices u
  u_there = sound.lone_at_vertex l u goes.is_lone

  not_v : (w : ℕ) → Has M.vertices w → w ≢ v
  not_v w there = row_elsewhere M.vertices w v there goes.vertex_free

  pub edge : OneMore M N h u v
  unfolding mev_lone
  edge = record { edges = ap (λ n. table.put M.edges (edge_of h) (edge_row h n v)) (ap lone_vertex goes.is_lone); free = goes.edge_free; ends_apart = not_v u u_there }

  -- ---- loops

  abbrev pair : LoopRow
  pair = record { face = face_of M l; content = cycle ps }

  loop_new : table.get N.loops l ≡ Some pair
  unfolding mev_lone
  loop_new = get-put_here M.loops l pair

  loop_other : (q : ℕ) → q ≢ l → table.get N.loops q ≡ table.get M.loops q
  unfolding mev_lone
  loop_other q a = get-put_other M.loops l pair q a

  pub content_new : content N l ≡ cycle ps
  content_new = content_row N l pair loop_new

  pub content_other : (q : ℕ) → q ≢ l → content N q ≡ content M q
  content_other q a = same_content M N q (loop_other q a)

  pub same : SameFaces M N
  unfolding mev_lone
  same =
      grind (arith, eqb_tells, face_row N l pair loop_new, loop_new, same_face M N, loop_other, table.has N.loops, table.has M.loops, goes.loop_there)

  -- ---- walks

  count_now : (x : ℕ) → count x (items_of (content N l)) ≡ tick x h + (tick x m + 0)
  count_now x = ap (λ c. count x (items_of c)) content_new ∙ count-canonical x (h ∷ m ∷ [])

  rows : TwoRows M N (edge_of h) l l
  rows = grind (arith, two_rows-more, edge, loop_other, count_now, goes.is_lone, ticks_apart, tick_same)

  two_loops : (q : ℕ) → OneOf l l q → Has N.loops q → IsLoop F (content N q)
  two_loops q o there = subst (IsLoop F) (sym (ap (content N) (elim o [ inl a ↦ a | inr a ↦ a ]) ∙ content_new)) (
    canonical_cycle (h ∷ m ∷ []) (λ x. elim (eqb_tells x h) [ inl a ↦ omega (arith, tick_other x m (λ s. mate_other h (sym a.1 ∙ s)), tick_le x h) | inr a ↦ omega (arith, tick_other x h a.1, tick_le x m) ]) h (omega (arith, tick_same h)),
    canonical_ring F (h ∷ m ∷ []) (F_h, (F_m, tt)),
  )

  stays : (x : ℕ) → HasHalf M x → after M x ≡ F x
  stays x t = sym (F_old x (not_h (comes edge) x t) (not_m (comes edge) x t))

  other_ring : (hs : List ℕ) → Elsewhere sound rows hs → IsRing (after M) hs → IsRing F hs
  other_ring hs each t = IsPath-agree (after M) F hs (head_or 0 hs) (λ x i. stays x (each x i).0) t

  never_u : (x : ℕ) → HasHalf M x → tail M x ≢ u
  never_u x there e = sound.lone_is_no_tail l x there (goes.is_lone ∙ ap lone (sym e))

  never_v : (x : ℕ) → HasHalf M x → tail M x ≢ v
  never_v = no_tail M sound v goes.vertex_free

  fan_else : (x : ℕ) → HasHalf M x → u ≢ tail M x → v ≢ tail M x → Fan F N (tail M x)
  fan_else x o a b = let f = fan_of M sound x o in
      fan_stays edge (after M) F (tail M x) f a b (IsPath-agree (λ y. after M (mate y)) (λ y. F (mate y)) f.items (head_or 0 f.items) (λ y i. stays (mate y) (mate_there M y (f.of_it y i).0)) f.ring)

  pub walks : Walks N F
  walks = walks-rows sound rows F two_loops other_ring
      (fans-more edge F (fan_alone edge F u h (first_starts edge) never_u F_m) (fan_alone edge F v m (second_starts edge) never_v (ap F (mate-mate h) ∙ F_h)) fan_else)

  pub after-h : after N h ≡ m
  after-h = after-walks N F walks h (half_h (comes edge)) ∙ F_h

  pub after-m : after N m ≡ h
  after-m = after-walks N F walks m (half_m (comes edge)) ∙ F_m

  -- ---- vertices

  vertex_put : RowSet M.vertices N.vertices v (Some p)
  unfolding mev_lone
  vertex_put = record { are = refl }

  has_vertex : (w : ℕ) → Has M.vertices w → Has N.vertices w
  has_vertex w there = has_on vertex_put w (not_v w there) there

  lone_back : (q w : ℕ) → IsLoneAt N q w → IsLoneAt M q w × (w ≢ u) × (w ≢ v)
  lone_back q w e = grind (arith, content_new, content_other q, sound.one_lone q l u, sound.lone_at_vertex q w)

  vertices : VerticesHold N
  vertices = vertices_hold-more sound edge (record {
    first_there = has_vertex u u_there;
    second_there = ap is_some (row_here vertex_put);
    on = has_vertex;
    back = λ w there a. has_back vertex_put w a there;
    lone_back = lone_back;
    lone_on = λ q w e a b. content_other q (λ s. a (one_vertex w u (sym e ∙ ap (content M) s ∙ goes.is_lone))) ∙ e;
  })

  stay : FacesStay M N
  stay = stay_of_same M N sound same

  one_solid : (x : ℕ) → HasHalf N x → solid_at N (loop_of N x) ≡ solid_at N (loop_of N (mate x))
  one_solid =
      let one = one_solid-rows sound rows (solid_at M l) in
      grind (arith, one, solid_kept sound stay l goes.loop_there, goes.loop_there, solid_kept sound stay, same.loop)

  ranges : RangesHold N
  unfolding mev_lone
  ranges = grind (arith, sound, fit-put, points-put, goes)

  -- no other edge ends at the new vertex
  pub no_parallel-lone : (x : ℕ) → HasHalf N x → edge_of x ≢ edge_of h → tail N x ≡ tail N h → tail N (mate x) ≢ tail N m
  no_parallel-lone x there a e f = grind (arith, half_cases, comes, edge, there, never_u, tail_old, tail-h, edge_of-mate)

  -- a sound model stays sound under mev at a lone loop
  pub sound-mev_lone : Sound N
  sound-mev_lone = sound_of N F walks vertices (faces_hold sound stay one_solid) ranges
