-- A sound model stays sound under mekr.
use Rattle.euler_laws.proofs.Prelude.{◌≡◌, ◌≢◌, ℕ, ◌+◌, List, [], ◌∷◌, ◌++◌, None, refl, sym, ap, ◌∙◌, subst, arith, ◌⊎◌, inl, inr, eq-eqb, ne_eqb, count, tick, IsIn, IsApart, head_or, canonical, IsPath, IsRing, between, beyond, after_mef, mate, edge_of, Model, lone, cycle, LoopRow, items_of, tail, loop_of, content, face_of, after, cycle_of, Sound, Has, HasHalf, edge_row, kemr, cycle_or_lone, count-append, tick_same, count-canonical, IsPath-append, IsPath-sent, apart_braced, between_canonical, beyond_canonical, mate_other, mate-mate, row_elsewhere, remove-put, in-holds, holds_in}
use Rattle.euler_operators.specs.Table as table
use Rattle.euler_laws.proofs.shared.Fans.{Fan}
use Rattle.euler_laws.proofs.shared.Loops.{IsLoop, canonical_cycle, canonical_ring, Walks}
use Rattle.euler_laws.proofs.shared.Same.{solid_at}
use Rattle.euler_laws.proofs.shared.Rows.{content_none, never_outer, was_empty, both_back, loop_row}
use Rattle.euler_laws.proofs.shared.Parts.{VerticesHold, RangesHold, sound_of, fit-put, fit-remove, FacesStay, solid_kept, faces_hold}
use Rattle.euler_laws.proofs.shared.EdgeMore.{OneMore, comes, PutBefore, not_h, not_m, first_starts, second_starts, fan_alone, ring_mef-other, fans-more, fan_first, fan_second, fan_other, vertices_hold-more, half_h, tail-h, tail-m}
use Rattle.euler_laws.proofs.shared.EdgeLess.{ticks_apart}
use Rattle.euler_laws.proofs.shared.TwoRows.{RowsSet, row_first, row_second, row_else, content_first, face_same, has_same, OneOf, TwoRows, lone_else, in_both, loop_both, Elsewhere, none_elsewhere, walks-rows, one_solid-rows, two_rows-more}
use Rattle.euler_laws.proofs.mekr.MekrSpots.{JoinGoes, count_spot, half_there, loop_there, ring_there, first_cases, vertex_there, only_lone}
use Rattle.euler_laws.proofs.kemr.KemrSound as parted
use Rattle.euler_laws.proofs.shared.Undo.{same_model}

-- Y of loop q and X of loop l become the loop h X m Y: mekr, by what its corners stand for
unfoldable pub join_loops : Model → ℕ → ℕ → ℕ → ℕ → ℕ → List ℕ → List ℕ → Model
join_loops M h q l u w Y X = record M {
  loops = table.remove (table.put M.loops q (record { face = face_of M q; content = cycle (canonical ((h ∷ X) ++ mate h ∷ Y)) })) l;
  edges = table.put M.edges (edge_of h) (edge_row h u w);
}

-- ---- where after_mef leads, also where c is h or e is m

module _ (next : ℕ → ℕ) (h m c e : ℕ) (hm : h ≢ m) (he : h ≢ e) (ce : c ≢ e) where
  led_h : after_mef next h m c e h ≡ e
  led_h = rw (eq-eqb h h refl, eq-eqb m m refl) refl

  led_m : after_mef next h m c e m ≡ c
  led_m = rw (ne_eqb m h (λ q. hm (sym q)), eq-eqb m m refl, ne_eqb h m hm, eq-eqb h h refl, ne_eqb c e ce) refl

  led_first : (x : ℕ) → x ≢ h → x ≢ m → next x ≡ c → after_mef next h m c e x ≡ h
  led_first x a b q = rw (ne_eqb x h a, ne_eqb x m b, eq-eqb (next x) c q, ne_eqb h e he) refl

  led_second : (x : ℕ) → x ≢ h → x ≢ m → next x ≡ e → after_mef next h m c e x ≡ m
  led_second x a b q = rw (ne_eqb x h a, ne_eqb x m b, ne_eqb (next x) c (λ p. ce (sym p ∙ q)), eq-eqb (next x) e q) refl

  led_else : (x : ℕ) → x ≢ h → x ≢ m → next x ≢ c → next x ≢ e → after_mef next h m c e x ≡ next x
  led_else x a b p q = rw (ne_eqb x h a, ne_eqb x m b, ne_eqb (next x) c p, ne_eqb (next x) e q) refl

-- a ring read from its first item on, and its last item sent to b
part_path : (f g : ℕ → ℕ) (zs : List ℕ) (k b : ℕ) → IsApart zs → IsRing f zs → ((y : ℕ) → IsIn y zs → f y ≡ head_or k zs → g y ≡ b) → ((y : ℕ) → IsIn y zs → IsIn (f y) zs → f y ≢ head_or k zs → g y ≡ f y) → IsPath g zs b
part_path f g [] k b d r first on = tt
part_path f g (z ∷ zs) k b d r first on = IsPath-sent f g z zs z b first
    (λ y i j. on y i (omega (arith, j)) (λ e. omega (arith, j, d z, tick_same z, ap (λ x. count x zs) e))) r

head_in : (k m : ℕ) (xs ys : List ℕ) → head_or k (xs ++ m ∷ ys) ≡ head_or m xs
head_in k m [] ys = refl
head_in k m (x ∷ xs) ys = refl

module _ {M : Model} (sound : Sound M) {h q l u w : ℕ} {Y X : List ℕ} (goes : JoinGoes M h q l u w Y X) where
  abbrev pub N : Model
  N = join_loops M h q l u w Y X

  abbrev pub m : ℕ
  m = mate h

  abbrev pub zs : List ℕ
  zs = (h ∷ X) ++ m ∷ Y

  -- what h and its mate are put before; each itself where the loop is lone
  abbrev pub c : ℕ
  c = head_or h Y

  abbrev pub e : ℕ
  e = head_or m X

  abbrev pub F : ℕ → ℕ
  F = after_mef (after M) h m c e

  mate_apart : h ≢ m
  mate_apart = mate_other h

  pub more : OneMore M N h u w
  unfolding join_loops
  more = record { edges = refl; free = goes.edge_free; ends_apart = goes.ends_apart }

  -- ---- the two lists

  in_Y : (x : ℕ) → IsIn x Y → HasHalf M x × (loop_of M x ≡ q)
  in_Y x i = (half_there M sound q u Y goes.first x i, loop_there M sound q u Y goes.first x i)

  in_X : (x : ℕ) → IsIn x X → HasHalf M x × (loop_of M x ≡ l)
  in_X x i = (half_there M sound l w X goes.second x i, loop_there M sound l w X goes.second x i)

  c_cases : ((Y ≡ []) × (c ≡ h) × (content M q ≡ lone u)) ⊎ (IsIn c Y × (tail M c ≡ u))
  c_cases = first_cases M sound q u Y goes.first h

  e_cases : ((X ≡ []) × (e ≡ m) × (content M l ≡ lone w)) ⊎ (IsIn e X × (tail M e ≡ w))
  e_cases = first_cases M sound l w X goes.second m

  -- no half-edge stands in both
  in_one : (x : ℕ) → IsIn x X → IsIn x Y → ⊥
  in_one x i j = goes.loops_apart (sym (in_Y x j).1 ∙ (in_X x i).1)

  apart_both : IsApart (X ++ Y)
  apart_both x = grind (arith, in_one, count-append)

  out : (x : ℕ) → (HasHalf M x → ⊥) → (count x X ≡ 0) × (count x Y ≡ 0)
  out x never = grind (arith, in_X, in_Y)

  pub apart_zs : IsApart zs
  apart_zs =
      let a = out h (λ t. not_h (comes more) h t refl) in
      let b = out m (λ t. not_m (comes more) m t refl) in
      apart_braced h m X Y mate_apart (omega (arith, count-append h X Y, a.0, a.1)) (omega (arith, count-append m X Y, b.0, b.1)) apart_both

  count_zs : (x : ℕ) → count x (canonical zs) ≡ tick x h + count x X + tick x m + count x Y
  count_zs x = omega (arith, count-canonical x zs, count-append x (h ∷ X) (m ∷ Y))

  h_not_e : h ≢ e
  h_not_e p = elim e_cases [ inl o ↦ mate_apart (p ∙ o.1) | inr o ↦ not_h (comes more) e (in_X e o.0).0 (sym p) ]

  c_not_e : c ≢ e
  c_not_e p = grind (arith, c_cases, h_not_e, e_cases, not_m (comes more) c, in_Y c)

  -- ---- loops

  abbrev pub kept : LoopRow
  kept = record { face = face_of M q; content = cycle (canonical zs) }

  pub loops_are : N.loops ≡ table.remove (table.put M.loops q kept) l
  unfolding join_loops
  loops_are = refl

  pub set : RowsSet M N q l kept None
  set = record { are = loops_are; apart = goes.loops_apart; there = goes.first.there; face = refl }

  content_l : content N l ≡ cycle []
  content_l = content_none N l (row_second set)

  not_l : (p : ℕ) → Has N.loops p → p ≢ l
  not_l p there = row_elsewhere N.loops p l there (row_second set)

  -- ---- walks

  count_now : (x : ℕ) → in_both N q l x ≡ count x (canonical zs) + 0
  count_now x = λ i. count x (items_of (content_first set i)) + count x (items_of (content_l i))

  count_was : (x : ℕ) → in_both M q l x ≡ count x Y + count x X
  count_was x = λ i. count_spot M sound q u Y goes.first x i + count_spot M sound l w X goes.second x i

  rows : TwoRows M N (edge_of h) q l
  rows = two_rows-more more (record {
    other_row = row_else set;
    others = λ x a. omega (arith, count_now x, count_was x, count_zs x, ticks_apart x h a);
    once = λ x s t. let i : IsIn x [] = subst (λ y. IsIn x (items_of y)) content_l (holds_in x (content N l) t) in absurd (omega (arith, i));
  }) (omega (arith, count_now h, count_zs h, tick_same h)) (omega (arith, count_now m, count_zs m, tick_same m))

  pub loop_new : (x : ℕ) → (x ≡ h) ⊎ (x ≡ m) → loop_of N x ≡ q
  loop_new x d = grind (arith, loop_both sound rows x q, content_first set, in-holds x (cycle (canonical zs)), count_zs x, tick_same x)

  at_h : F h ≡ e
  at_h = led_h (after M) h m c e mate_apart h_not_e c_not_e

  at_m : F m ≡ c
  at_m = led_m (after M) h m c e mate_apart h_not_e c_not_e

  path_X : IsPath F X m
  path_X = part_path (after M) F X m m goes.second.apart (ring_there M sound l w X goes.second)
      (λ y i a. let o = (in_X y i).0 in led_second (after M) h m c e mate_apart h_not_e c_not_e y (not_h (comes more) y o) (not_m (comes more) y o) a)
      (λ y i j a. let o = (in_X y i).0 in led_else (after M) h m c e mate_apart h_not_e c_not_e y (not_h (comes more) y o) (not_m (comes more) y o) (not_c (after M y) j) a) where
        not_c : (x : ℕ) → IsIn x X → x ≢ c
        not_c x j p = elim c_cases [ inl a ↦ not_h (comes more) x (in_X x j).0 (p ∙ a.1) | inr a ↦ in_one c (subst (λ y. IsIn y X) p j) a.0 ]

  path_Y : IsPath F Y h
  path_Y = part_path (after M) F Y h h goes.first.apart (ring_there M sound q u Y goes.first)
      (λ y i a. let o = (in_Y y i).0 in led_first (after M) h m c e mate_apart h_not_e c_not_e y (not_h (comes more) y o) (not_m (comes more) y o) a)
      (λ y i j a. let o = (in_Y y i).0 in led_else (after M) h m c e mate_apart h_not_e c_not_e y (not_h (comes more) y o) (not_m (comes more) y o) a (not_e (after M y) j)) where
        not_e : (x : ℕ) → IsIn x Y → x ≢ e
        not_e x j p = elim e_cases [ inl a ↦ not_m (comes more) x (in_Y x j).0 (p ∙ a.1) | inr a ↦ in_one e a.0 (subst (λ y. IsIn y Y) p j) ]

  ring_zs : IsRing F zs
  ring_zs = (at_h ∙ sym (head_in h m X Y), IsPath-append F X (m ∷ Y) h path_X (at_m, path_Y))

  two_loops : (p : ℕ) → OneOf q l p → Has N.loops p → IsLoop F (content N p)
  two_loops p o there =
      grind (arith, content_first set, canonical_cycle zs apart_zs h, apart_zs h, tick_same h, canonical_ring F zs ring_zs, ring_zs, not_l p there)

  other_ring : (hs : List ℕ) → Elsewhere sound rows hs → IsRing (after M) hs → IsRing F hs
  other_ring hs each t =
      let none = none_elsewhere sound rows hs each in
      ring_mef-other (after M) h m c e hs (none h (λ o. absurd (not_h (comes more) h o refl))) (none m (λ o. absurd (not_m (comes more) m o refl)))
      (none c (λ o. elim c_cases [ inl k ↦ absurd (not_h (comes more) c o k.1) | inr k ↦ inl (in_Y c k.0).1 ]))
      (none e (λ o. elim e_cases [ inl k ↦ absurd (not_m (comes more) e o k.1) | inr k ↦ inr (in_X e k.0).1 ])) t

  put : PutBefore M h u w c e
  put = grind (arith, sound, c_cases, not_h (comes more) c, comes more, more, e_cases, not_m (comes more) e, h_not_e)

  fan_u : Fan F N u
  fan_u = grind (arith, c_cases, fan_alone more F u h (first_starts more), sound.lone_is_no_tail q, at_m, fan_first more put, in_Y c)

  fan_w : Fan F N w
  fan_w = grind (arith, e_cases, fan_alone more F w m (second_starts more), sound.lone_is_no_tail l, mate-mate h, at_h, fan_second more put, in_X e)

  pub walks : Walks N F
  walks = walks-rows sound rows F two_loops other_ring (fans-more more F fan_u fan_w (fan_other more put))

  -- ---- vertices

  -- a lone loop that is joined had its vertex at the edge's end
  vertices : VerticesHold N
  unfolding join_loops
  vertices = vertices_hold-more sound more (record {
    first_there = vertex_there M sound q u Y goes.first;
    second_there = vertex_there M sound l w X goes.second;
    on = λ v t. t;
    back = λ v t a. t;
    lone_back = λ p t z. let b = lone_else sound rows (content_first set) content_l p t z in
        (b.0, λ a. b.1 (only_lone M sound q u Y goes.first p (b.0 ∙ ap lone a)), λ a. b.2 (only_lone M sound l w X goes.second p (b.0 ∙ ap lone a)));
    lone_on = grind (arith, rows.other_content, was_empty Y u, goes.first.holds_it, was_empty X w, goes.second.holds_it);
  })

  -- ---- faces

  -- the loop that goes was no outer loop
  faces_stay : FacesStay M N
  unfolding join_loops
  faces_stay = grind (arith, face_same set, not_l, has_same set, never_outer M sound l goes.no_outer, goes.no_outer, sound.outers_there)

  one_solid : (x : ℕ) → HasHalf N x → solid_at N (loop_of N x) ≡ solid_at N (loop_of N (mate x))
  one_solid =
      let one = solid_kept sound faces_stay q goes.first.there in
      grind (arith, one_solid-rows sound rows (solid_at M q), one, row_first set, not_l, goes.one_face, solid_kept sound faces_stay, has_same set)

  ranges : RangesHold N
  unfolding join_loops
  ranges = grind (arith, sound, fit-put, fit-remove, goes.first.there, goes.edge_fits)

  -- a sound model stays sound under mekr
  pub sound-join : Sound N
  sound-join = sound_of N F walks vertices (faces_hold sound faces_stay one_solid) ranges

  -- ---- kemr takes it back

  abbrev K : Model
  K = kemr N h l

  loop_h : loop_of N h ≡ q
  loop_h = loop_new h (inl refl)

  pub part_goes : parted.KemrGoes N h l
  part_goes = grind (arith, half_h (comes more), comes more, row_second set, loop_h, loop_new m, sound.loops_fit l goes.second.there)

  cycle_h : cycle_of N h ≡ canonical ((h ∷ X) ++ m ∷ Y)
  cycle_h = ap (λ p. items_of (content N p)) loop_h ∙ ap items_of (content_first set)

  face_h : face_of N (loop_of N h) ≡ face_of M q
  face_h = ap (face_of N) loop_h ∙ face_same set q goes.loops_apart

  first_back : cycle_or_lone (beyond h m (cycle_of N h)) (tail N h) ≡ content M q
  first_back = grind (arith, cycle_h, beyond_canonical h m X Y apart_zs, tail-h (comes more))

  second_back : cycle_or_lone (between h m (cycle_of N h)) (tail N m) ≡ content M l
  second_back = grind (arith, cycle_h, between_canonical h m X Y apart_zs, tail-m (comes more))

  loops-back : K.loops ≡ M.loops
  loops-back =
      let f : face_of N (loop_of N h) ≡ face_of M l = face_h ∙ goes.one_face in
      parted.loops_are N sound-join h l part_goes
      ∙ (λ i. table.put (table.put N.loops (loop_h i) (record { face = face_h i; content = first_back i })) l (record { face = f i; content = second_back i }))
      ∙ ap (λ t. table.put (table.put t q (record { face = face_of M q; content = content M q })) l (record { face = face_of M l; content = content M l })) loops_are
      ∙ both_back M.loops q l _ _ _ goes.loops_apart (loop_row M q goes.first.there) (loop_row M l goes.second.there)

  -- kemr takes the join back
  pub kemr-join_back : kemr (join_loops M h q l u w Y X) h l ≡ M
  unfolding kemr join_loops
  kemr-join_back = same_model K M refl refl loops-back (remove-put M.edges (edge_of h) (edge_row h u w) goes.edge_free) refl
