-- A sound model stays sound under kemr.
use Rattle.euler_laws.proofs.Prelude.{◌≡◌, ◌≢◌, ℕ, ◌+◌, List, [], ◌∷◌, Some, None, is_some, IsTrue, refl, sym, ap, ◌∙◌, subst, arith, ◌⊎◌, inl, eqb_tells, count, tick, IsIn, head_or, canonical, between, beyond, IsRing, successor, after_kef, mate, edge_of, Model, LoopContent, cycle, LoopRow, items_of, tail, loop_of, content, face_of, cycle_of, after, is_number, Sound, Has, HasHalf, StandsIn, IsCycle, IsLoneAt, kemr, cycle_or_lone, count-append, tick_same, canonical-rotates, IsRotation-sym, count-rotate_to, IsRing-same, ring_split, IsRing-kemr, mate_other, row_elsewhere, in-holds, holds_in, cycle_there, cycle_sound, content_cycle, content_row, face_row, row_of, mate_there}
use Rattle.euler_operators.specs.Table as table
use Rattle.euler_laws.proofs.shared.Loops.{IsLoop, light, Walks}
use Rattle.euler_laws.proofs.shared.Same.{solid_at}
use Rattle.euler_laws.proofs.shared.Undo.{after_first}
use Rattle.euler_laws.proofs.shared.Rows.{held_row, content_none, count_or_lone, loop_or_lone, was_empty, after_second}
use Rattle.euler_laws.proofs.shared.Parts.{VerticesHold, RangesHold, sound_of, fit-put, fit-remove, fit-map, FacesStay, solid_stays, solid_kept, faces_hold}
use Rattle.euler_laws.proofs.shared.EdgeLess.{OneLess, ticks_apart, ring_kef-other, fans-less, vertices_hold-less}
use Rattle.euler_laws.proofs.shared.TwoRows.{RowsSet, row_first, row_second, row_else, content_first, face_same, has_same, OneOf, TwoRows, lone_still, in_both, Elsewhere, none_elsewhere, walks-rows, one_solid-rows, two_rows-less}

-- what the conditions of kemr say
pub record KemrGoes (M : Model) (h l : ℕ) : Type 0 where
  pub h_there : HasHalf M h
  pub loop_free : table.get M.loops l ≡ None
  pub one_loop : loop_of M h ≡ loop_of M (mate h)
  pub loop_fits : IsTrue (is_number l)

module _ (M : Model) (sound : Sound M) (h l : ℕ) (goes : KemrGoes M h l) where
  abbrev pub N : Model
  N = kemr M h l

  abbrev pub m : ℕ
  m = mate h

  abbrev pub u : ℕ
  u = tail M h

  abbrev pub w : ℕ
  w = tail M m

  abbrev pub r : ℕ
  r = loop_of M h

  abbrev pub xs : List ℕ
  xs = cycle_of M h

  abbrev pub X : List ℕ
  X = between h m xs

  abbrev pub Y : List ℕ
  Y = beyond h m xs

  abbrev pub F : ℕ → ℕ
  F = after_kef (after M) h m

  pub mate_apart : h ≢ m
  mate_apart = mate_other h

  pub m_there : HasHalf M m
  m_there = mate_there M h goes.h_there

  pub h_in : IsIn h xs
  h_in = cycle_there M sound h goes.h_there

  pub m_in : IsIn m xs
  m_in = subst (λ q. IsIn m (items_of (content M q))) (sym goes.one_loop) (cycle_there M sound m m_there)

  pub cyc : IsCycle xs
  cyc = cycle_sound M sound h goes.h_there

  pub count_xs : (x : ℕ) → count x X + count x Y + tick x h + tick x m ≡ count x xs
  count_xs x = omega (arith, count-rotate_to x h xs, ap (count x) (ring_split h m xs h_in m_in mate_apart), count-append x (h ∷ X) (m ∷ Y))

  pub after_h : after M h ≡ head_or m X
  unfolding after
  after_h = after_first xs cyc.apart h m h_in m_in mate_apart

  pub after_m : after M m ≡ head_or h Y
  unfolding after
  after_m = ap (λ q. successor q m) (ap (λ q. items_of (content M q)) (sym goes.one_loop)) ∙ after_second xs cyc h m mate_apart h_in m_in

  h_out : count h Y ≡ 0
  h_out = omega (arith, count_xs h, tick_same h, cyc.apart h)

  m_out : count m X ≡ 0
  m_out = omega (arith, count_xs m, tick_same m, cyc.apart m)

  head_empty : (k : ℕ) (zs : List ℕ) → count k zs ≡ 0 → head_or k zs ≡ k → zs ≡ []
  head_empty k [] n e = refl
  head_empty k (z ∷ zs) n e = absurd (omega (arith, n, ap (tick k) e, tick_same k))

  -- ---- loops

  abbrev pub kept : LoopRow
  kept = record { face = face_of M r; content = cycle_or_lone Y u }

  abbrev pub new : LoopRow
  new = record { face = face_of M r; content = cycle_or_lone X w }

  shrink : List ℕ → LoopContent
  shrink hs = cycle_or_lone (beyond h m hs) u

  pub loops_are : N.loops ≡ table.put (table.put M.loops r kept) l new
  unfolding kemr shrink
  loops_are = ap (λ t. table.put t l new) (held_row M sound h goes.h_there shrink)

  pub has_r : Has M.loops r
  has_r = ap is_some (row_of M sound h goes.h_there)

  pub not_l : (q : ℕ) → Has M.loops q → q ≢ l
  not_l q there = row_elsewhere M.loops q l there goes.loop_free

  pub r_l : r ≢ l
  r_l = not_l r has_r

  pub set : RowsSet M N r l kept (Some new)
  set = record { are = loops_are; apart = r_l; there = has_r; face = refl }

  pub content_l : content N l ≡ cycle_or_lone X w
  content_l = content_row N l new (row_second set)

  content_free : content M l ≡ cycle []
  content_free = content_none M l goes.loop_free

  pub face_l : face_of N l ≡ face_of M r
  face_l = face_row N l new (row_second set)

  -- ---- walks

  pub less : OneLess M N h
  unfolding kemr
  less = record { edges = refl; there = goes.h_there }

  count_now : (x : ℕ) → in_both N r l x ≡ count x Y + count x X
  count_now x = (λ i. count x (items_of (content_first set i)) + count x (items_of (content_l i))) ∙ (λ i. count_or_lone x Y u i + count_or_lone x X w i)

  rows : TwoRows M N (edge_of h) r l
  rows = two_rows-less less (record {
    other_row = row_else set;
    others = λ x a. omega (arith, count_now x, ap (λ c. count x xs + count x (items_of c)) content_free, count_xs x, ticks_apart x h a);
    once = λ x t k. absurd (omega (arith, holds_in x (content N r) t, holds_in x (content N l) k, count_now x, count_xs x, cyc.apart x));
  }) (omega (arith, h_in)) (omega (arith, m_in)) (omega (arith, count_now h, count_xs h, tick_same h, cyc.apart h)) (omega (arith, count_now m, count_xs m, tick_same m, cyc.apart m))

  pub in_Y : (x : ℕ) → IsIn x Y → StandsIn N x r
  in_Y x i = in-holds x (content N r) (subst (λ c. IsIn x (items_of c)) (sym (content_first set)) (omega (arith, i, count_or_lone x Y u)))

  pub in_X : (x : ℕ) → IsIn x X → StandsIn N x l
  in_X x i = in-holds x (content N l) (subst (λ c. IsIn x (items_of c)) (sym content_l) (omega (arith, i, count_or_lone x X w)))

  parted : IsRing F Y × IsRing F X
  parted = let t = IsRing-kemr (after M) h m xs cyc.apart h_in m_in mate_apart (light M sound r).1 in
      (IsRing-same F (canonical Y) Y (IsRotation-sym Y (canonical Y) (canonical-rotates Y)) t.0, IsRing-same F (canonical X) X (IsRotation-sym X (canonical X) (canonical-rotates X)) t.1)

  two_loops : (q : ℕ) → OneOf r l q → Has N.loops q → IsLoop F (content N q)
  two_loops q o there =
      let one = loop_or_lone F Y u (λ x. omega (arith, count_xs x, cyc.apart x)) parted.0 in
      grind (arith, o, content_first set, one, content_l, loop_or_lone F X w (λ x. omega (arith, count_xs x, cyc.apart x)) parted.1)

  other_ring : (hs : List ℕ) → Elsewhere sound rows hs → IsRing (after M) hs → IsRing F hs
  other_ring hs each t = let none = none_elsewhere sound rows hs each in ring_kef-other (after M) h m hs (none h (λ o. inl refl)) (none m (λ o. inl (sym goes.one_loop))) t

  pub walks : Walks N F
  walks = walks-rows sound rows F two_loops other_ring (fans-less sound less)

  -- ---- vertices

  lone_back : (q t : ℕ) → IsLoneAt N q t → IsLoneAt M q t ⊎ (((q ≡ r) × (t ≡ u) × (after M m ≡ h)) ⊎ ((q ≡ l) × (t ≡ w) × (after M h ≡ m)))
  lone_back q t e = grind (arith, was_empty Y u t, content_first set, after_m, was_empty X w t, content_l, after_h, rows.other_content q)

  vertices : VerticesHold N
  unfolding kemr
  vertices = vertices_hold-less sound less (record {
    vertices = refl;
    lone_back = lone_back;
    lone_on = lone_still sound rows (content_cycle M sound h goes.h_there) content_free;
    first_lone = λ e. content_first set ∙ ap (λ z. cycle_or_lone z u) (head_empty h Y h_out (sym after_m ∙ e));
    second_lone = λ e. content_l ∙ ap (λ z. cycle_or_lone z w) (head_empty m X m_out (sym after_h ∙ e));
  })

  -- ---- faces

  pub faces_stay : FacesStay M N
  unfolding kemr
  faces_stay = grind (arith, face_same set, not_l, eqb_tells, face_l, sound.loops_of_faces r has_r, has_r, has_same set, sound.outers_there)

  one_solid : (x : ℕ) → HasHalf N x → solid_at N (loop_of N x) ≡ solid_at N (loop_of N (mate x))
  one_solid =
      let one = solid_kept sound faces_stay r has_r in let two = solid_stays sound faces_stay (face_of M r) in
      grind (arith, one_solid-rows sound rows (solid_at M r), one, two, row_first set, face_l, not_l, solid_kept sound faces_stay, has_same set)

  ranges : RangesHold N
  unfolding kemr
  ranges = grind (arith, sound, fit-put, fit-map, fit-remove, goes.loop_fits)

  -- a sound model stays sound under kemr
  pub sound-kemr : Sound N
  sound-kemr = sound_of N F walks vertices (faces_hold sound faces_stay one_solid) ranges
